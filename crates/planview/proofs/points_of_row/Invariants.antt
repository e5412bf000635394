-- `points_of_row`: what its loop keeps true.
use Rattle.std.proofs.Common.{◌≡◌, ◌≤◌, count_by}
use Rattle.std.specs.List.{range_with_len}
use Rattle.plan.specs.Hall.{covers_at}
use Rattle.planview.proofs.points_of_row.Given as goal

-- the points before x are counted
abbrev pub invariant-loop-x : goal.invariant-loop-x
invariant-loop-x g l =
    (l.points ≡ count_by (λ x. covers_at (g.P.Plan.hall l.plan) l.place x l.y) (range_with_len 0 l.x))
    × (l.points ≤ l.x)
