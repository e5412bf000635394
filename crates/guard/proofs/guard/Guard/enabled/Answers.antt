-- `enabled`: the question is answered by what is kept of the badge.
use Rattle.std.proofs.Common.{refl, ap, ◌∙◌}
use Rattle.calls.specs.declared.call.Event.TheVariants.{Enabled}
use Rattle.decide.specs.Answers.{judged}
use Rattle.history.specs.Laws.{call}
use Rattle.history.specs.Replies.{reply}
use Rattle.calls.specs.Standing.{Standing}
use Rattle.guard.specs.Kept.{ground_in}
use Rattle.guard.proofs.Performed.{asks_on}
use Rattle.guard.proofs.guard.Guard.enabled.Goals as goal

pub returns : goal.returns
returns g c =
    let v = c.args.self.now in
    let h = g.P.Plan.hall v.site.plan in
    let e = call c.args.badge (Enabled c.args.role) in
    let both = asks_on h v e (judged c.enabled.result) (λ st. refl) (c.enabled.ensures ∙ c.subject.ensures.replies (Enabled c.args.role) ∙ ap (λ (st : Standing). reply (ground_in h v) st e) (c.kept-kept.ensures c.fresh-fresh.ensures)) in
    record { performs = both.0; law = both.1 }
