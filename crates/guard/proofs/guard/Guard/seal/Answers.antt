-- `seal`: the site is sealed, and all badges are forgotten.
use Rattle.std.proofs.Common.{ap, ◌∙◌}
use Rattle.policy.specs.Policies.{says}
use Rattle.site.specs.declared.site.Site.{Site}
use Rattle.site.specs.Kept.{ground}
use Rattle.guard.proofs.Sealed.{begins_from}
use Rattle.guard.proofs.guard.Guard.seal.Goals as goal

pub returns : goal.returns
returns g c =
    let v = c.args.self.now in
    let h = g.P.Plan.hall v.site.plan in
    let told = c.in_ok-seal.ensures in
    let left = c.forget.ensures in
    let after = ap (λ (s : Site g.row.P.Denot). ground h s) left.site ∙ told.after in
    record {
      seals = record { answered = told.answer; plan = ap (λ (s : Site g.row.P.Denot). s.plan) left.site ∙ told.plan; grounded = after; kept = left.kept };
      begins = λ _. begins_from h c.forget.new.self (says v.site.policy) (ground h v.site) c.args.words.now told.answer after left.kept;
    }
