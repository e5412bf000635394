-- `built_in`: the policy of the hall is accepted.
use Rattle.std.proofs.Common.{Ok, refl, ap, ◌∙◌}
use Rattle.policy.specs.Policies.{says}
use Rattle.sealing.specs.Ground.{Ground}
use Rattle.benchrun.specs.Hall.{hall_of_plan}
use Rattle.benchrun.proofs.Accepted.{never_refused, ready}
use Rattle.benchrun.proofs.hall.built_in.Goals as goal

pub returns-in_err-seal : goal.returns-in_err-seal
returns-in_err-seal c =
    let v = c.in_ok-guard.guard in
    let new = c.in_ok-guard.ensures in
    absurd
    (never_refused
    (hall_of_plan v.site.plan)
    (says v.site.policy)
    c.in_err-seal.field-0.0
    (ap hall_of_plan new.0 ∙ c.in_ok-plan.ensures)
    (ap (λ (g : Ground). g.content) new.1)
    c.in_err-seal.ensures.seals.answered)

pub returns : goal.returns
returns c =
    let v = c.in_ok-guard.guard in
    let new = c.in_ok-guard.ensures in
    let sealed = c.in_ok-seal.ensures in
    ready v c.seal.new.self (ap hall_of_plan new.0 ∙ c.in_ok-plan.ensures) sealed.seals.plan (sealed.begins (refl {a = Ok tt}))
