-- `seal`: the words, the checks, and what is kept.
use Rattle.std.proofs.Common.{◌≡◌, Some, None, Ok, sym, refl, ap, ◌∙◌, arith}
use Rattle.std.specs.Result.{result_err}
use Rattle.std.proofs.lemmas.Bool.{ltb-false}
use Rattle.policy.specs.Policies.{says}
use Rattle.policy.specs.Reading.{content_from}
use Rattle.sealing.specs.Ground.{ground_after}
use Rattle.sealing.specs.Outcome.{sealed_or}
use Rattle.site.specs.Kept.{ground}
use Rattle.site.proofs.Blanks.{says_nothing}
use Rattle.site.proofs.Grounds.{same_ground}
use Rattle.site.proofs.Sealings.{accepted_is, read_has_badges, outcome_is}
use Rattle.site.proofs.site.Site.seal.Goals as goal

pub returns-in-Err : goal.returns-in-Err
returns-in-Err g c =
    let v = c.args.self.now in
    let h = g.P.Plan.hall v.plan in
    let ws = c.args.words.now in
    let old = says v.policy in
    let new = says c.read.new.self in
    let unsealed : old.badges ≡ 0 = omega (arith, ltb-false 0 old.badges (sym c.is_sealed.ensures ∙ c.if-is_sealed.false)) in
    let read : content_from ws ≡ Ok new = accepted_is (content_from ws) old new c.in_ok-read.ensures.answer c.read.ensures.after in
    let is = outcome_is old h ws new (Some c.in-Err.fault) unsealed read (sym (ap result_err c.in-Err.is) ∙ c.first_fault.ensures.meant h c.of-survey.ensures.tied) in
    record {
      answer = sym (ap sealed_or is);
      plan = refl;
      after = same_ground h _ _ _ _ _ _ (c.clear.ensures.after ∙ sym (says_nothing old unsealed (v.blank unsealed))) (λ r p. refl) (λ r a. refl) ∙ sym (ap (ground_after (ground h v) h) is);
    }

-- a policy that was read has badges
pub invariant_of-self-2 : goal.invariant_of-self-2
invariant_of-self-2 g c =
    let ws = c.args.words.now in
    let new = says c.read.new.self in
    let read : content_from ws ≡ Ok new = accepted_is (content_from ws) _ new c.in_ok-read.ensures.answer c.read.ensures.after in
    record { blank = λ z. absurd (read_has_badges ws new read z) }

pub returns : goal.returns
returns g c =
    let v = c.args.self.now in
    let h = g.P.Plan.hall v.plan in
    let ws = c.args.words.now in
    let old = says v.policy in
    let new = says c.read.new.self in
    let tied = c.of-survey.ensures.tied in
    let unsealed : old.badges ≡ 0 = omega (arith, ltb-false 0 old.badges (sym c.is_sealed.ensures ∙ c.if-is_sealed.false)) in
    let read : content_from ws ≡ Ok new = accepted_is (content_from ws) old new c.in_ok-read.ensures.answer c.read.ensures.after in
    let is = outcome_is old h ws new None unsealed read (sym (ap result_err c.in_default.is) ∙ c.first_fault.ensures.meant h tied) in
    record {
      answer = sym (ap sealed_or is);
      plan = refl;
      after = same_ground h _ _ _ _ _ _ refl (c.extents-self.ensures h (g.met.P.Plan.few v.plan) tied) (c.ancestors_over-self.ensures.meant h tied) ∙ sym (ap (ground_after (ground h v) h) is);
    }
