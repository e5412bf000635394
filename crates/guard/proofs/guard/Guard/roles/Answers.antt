-- `roles`: the question is answered by what is kept of the badge.
use Rattle.std.proofs.Common.{refl, ap, ◌∙◌}
use Rattle.calls.specs.declared.call.Event.TheVariants.{Roles}
use Rattle.decide.specs.Answers.{gathered}
use Rattle.history.specs.Laws.{call}
use Rattle.history.specs.Replies.{reply}
use Rattle.calls.specs.Standing.{Standing}
use Rattle.guard.specs.Kept.{ground_in}
use Rattle.guard.proofs.Performed.{asks_on}
use Rattle.guard.proofs.guard.Guard.roles.Goals as goal

pub returns : goal.returns
returns g c =
    let v = c.args.self.now in
    let h = g.P.Plan.hall v.site.plan in
    let e = call c.args.badge (Roles c.args.session) in
    let both = asks_on h v e (gathered c.roles.result) (λ st. refl) (c.roles.ensures ∙ c.subject.ensures.replies (Roles c.args.session) ∙ ap (λ (st : Standing). reply (ground_in h v) st e) (c.kept-kept.ensures c.fresh-fresh.ensures)) in
    record { performs = both.0; law = both.1 }
