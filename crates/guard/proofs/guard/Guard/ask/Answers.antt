-- `ask`: the question is answered by what is kept of the badge, and grants exactly as the law says.
use Rattle.std.proofs.Common.{refl, ap, ◌∙◌}
use Rattle.calls.specs.declared.call.Event.TheVariants.{Ask}
use Rattle.decide.specs.Answers.{granted}
use Rattle.history.specs.Laws.{call}
use Rattle.history.specs.Replies.{reply}
use Rattle.calls.specs.Standing.{Standing}
use Rattle.guard.specs.Kept.{ground_in}
use Rattle.guard.proofs.Performed.{asks_on, grants_so}
use Rattle.guard.proofs.guard.Guard.ask.Goals as goal

pub returns : goal.returns
returns g c =
    let a = c.args in
    let v = a.self.now in
    let h = g.P.Plan.hall v.site.plan in
    let e = call a.badge (Ask a.session a.operation a.object) in
    let both = asks_on h v e (granted c.ask.result) (λ st. refl) (c.ask.ensures ∙ c.subject.ensures.replies (Ask a.session a.operation a.object) ∙ ap (λ (st : Standing). reply (ground_in h v) st e) (c.kept-kept.ensures c.fresh-fresh.ensures)) in
    record { performs = both.0; law = both.1; exactly = grants_so h v a.badge a.session a.operation a.object (granted c.ask.result) both.0 }
