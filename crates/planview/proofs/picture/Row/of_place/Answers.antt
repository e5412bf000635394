-- `of_place`: a mark is made.
use Rattle.std.proofs.Common.{◌∙◌, arith, length-set}
use Rattle.planview.specs.Views.{mark_at}
use Rattle.planview.proofs.Steps.{made_step}
use Rattle.planview.proofs.picture.Row.of_place.Goals as goal

pub loop-x-preserved : goal.loop-x-preserved
loop-x-preserved g c = (
  made_step (mark_at (g.P.Plan.hall c.args.plan.now) c.args.place c.args.y) c.loop-x.marks c.loop-x.x c.mark.result (omega (arith, g.met.P.Plan.floor c.args.plan.now)) c.loop-x.invariant.0 c.mark.ensures,
  length-set _ _ _ ∙ c.loop-x.invariant.1,
)
