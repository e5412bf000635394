-- `points_of_row`: a point is counted or not.
use Rattle.std.proofs.Common.{sym, ◌∙◌, arith}
use Rattle.plan.specs.Hall.{covers_at}
use Rattle.planview.proofs.Steps.{count_yes, count_no}
use Rattle.planview.proofs.points_of_row.Goals as goal
use Rattle.planview.proofs.points_of_row.Goals.{then-covers, else-covers}

pub loop-x-preserved : goal.loop-x-preserved
loop-x-preserved g c =
    elim c.if-covers.branch [
      | then-covers w ↦ (
        count_yes (λ x. covers_at (g.P.Plan.hall c.args.plan.now) c.args.place x c.args.y) c.loop-x.x c.loop-x.points c.if-covers.points c.loop-x.invariant.0 (sym c.covers.ensures ∙ w.if-covers.true) w.points-is,
        omega (arith, w.points-is, c.loop-x.invariant.1),
      )
      | else-covers w ↦ (
        count_no (λ x. covers_at (g.P.Plan.hall c.args.plan.now) c.args.place x c.args.y) c.loop-x.x c.loop-x.points c.if-covers.points c.loop-x.invariant.0 (sym c.covers.ensures ∙ w.if-covers.false) w.points-is,
        omega (arith, w.points-is, c.loop-x.invariant.1),
      )
    ]
