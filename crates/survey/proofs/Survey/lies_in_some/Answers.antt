-- `lies_in_some`: whether some place will do.
use Rattle.std.proofs.Common.{◌≡◌, true, false, ◌∙◌, refl, rules, arith}
use Rattle.std.proofs.lemmas.Iterator.{cases_from_any, YieldsList-from_range}
use Rattle.survey.specs.Kept.{kept_holds}
use Rattle.survey.proofs.Ranges.{some_from_any}
use Rattle.survey.proofs.Ties.{lies_in_some_tied}
use Rattle.survey.proofs.Survey.lies_in_some.Goals as goal

pub returns-clause-kept : goal.returns-clause-kept
returns-clause-kept c =
    let p = kept_holds c.args.self.now c.args.ty c.args.place in
    some_from_any p c.args.self.now.count c.any.result
    (cases_from_any _ _ c.any.result (λ k. p k ≡ true) (λ k. p k ≡ false) c.any.ensures.ran (YieldsList-from_range 0 _ c.args.self.now.count refl (omega arith)) (λ x q k. search rules) (λ x q k. search rules))

pub returns-clause-meant : goal.returns-clause-meant
returns-clause-meant c h tied = returns-clause-kept c ∙ lies_in_some_tied h c.args.self.now tied c.args.ty c.args.place
