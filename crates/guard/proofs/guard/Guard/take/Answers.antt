-- `take`: an event that is not refused moves its badge.
use Rattle.std.proofs.Common.{◌≡◌, ◌<◌, length, None, refl, ap, ◌∙◌, rules}
use Rattle.calls.specs.Standing.{Standing}
use Rattle.history.specs.Laws.{call}
use Rattle.history.specs.Refusals.{refusal}
use Rattle.rights.proofs.Counts.{roles_few}
use Rattle.guard.specs.Kept.{kept_of, ground_in}
use Rattle.guard.proofs.Moving.{one_moves}
use Rattle.guard.proofs.guard.Guard.take.Goals as goal

pub returns : goal.returns
returns g c =
    let v = c.args.self.now in
    let n = c.args.badge in
    let gr = ground_in (g.P.Plan.hall v.site.plan) v in
    let within : n < length v.badges = search rules in
    let fine : None ≡ refusal gr (kept_of v n) (call n c.args.event) = c.in_ok-refusal.ensures ∙ c.subject.ensures.refuses c.args.event ∙ ap (λ (st : Standing). refusal gr st (call n c.args.event)) (c.kept-kept.ensures c.fresh-fresh.ensures) in
    record {
      refused = fine;
      site = refl;
      kept = one_moves gr v.badges n c.args.event _ _ (roles_few v.site.policy) within fine c.apply.ensures;
    }
