-- `of_place`: what its loop keeps true.
use Rattle.std.proofs.Common.{◌≡◌, map, length, take}
use Rattle.std.specs.List.{range_with_len}
use Rattle.planview.specs.Views.{mark_at}
use Rattle.planview.proofs.picture.Row.of_place.Given as goal

-- the marks before x are made
abbrev pub invariant-loop-x : goal.invariant-loop-x
invariant-loop-x g l =
    (take l.x l.marks ≡ map (mark_at (g.P.Plan.hall l.plan) l.place l.y) (range_with_len 0 l.x))
    × (length l.marks ≡ 256)
