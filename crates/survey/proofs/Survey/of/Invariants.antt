-- `of`: what the pass keeps true.
use Rattle.survey.proofs.Pass.{SeenTo}
use Rattle.survey.proofs.Survey.of.Given as goal

-- the rows below y are seen
abbrev pub invariant-loop-y : goal.invariant-loop-y
invariant-loop-y g l = SeenTo (g.P.Plan.hall l.plan) l.places 0 l.y

-- and of row y the points below x
abbrev pub invariant-loop-x : goal.invariant-loop-x
invariant-loop-x g l = SeenTo (g.P.Plan.hall l.plan) l.places l.x l.y
