-- `type_lies`: whether each place fits.
use Rattle.std.proofs.Common.{◌≡◌, true, false, ◌∙◌, refl, rules, arith}
use Rattle.std.proofs.lemmas.Iterator.{cases_from_all, YieldsList-from_range}
use Rattle.survey.specs.Kept.{kept_fits}
use Rattle.survey.proofs.Ranges.{every_from_all}
use Rattle.survey.proofs.Ties.{type_lies_tied}
use Rattle.survey.proofs.Survey.type_lies.Goals as goal

pub returns-clause-kept : goal.returns-clause-kept
returns-clause-kept c =
    let p = kept_fits c.args.self.now c.args.s c.args.t in
    every_from_all p c.args.self.now.count c.all.result
    (cases_from_all _ _ c.all.result (λ k. p k ≡ true) (λ k. p k ≡ false) c.all.ensures.ran (YieldsList-from_range 0 _ c.args.self.now.count refl (omega arith)) (λ x q k. search rules) (λ x q k. search rules))

pub returns-clause-meant : goal.returns-clause-meant
returns-clause-meant c h tied = returns-clause-kept c ∙ type_lies_tied h c.args.self.now tied c.args.s c.args.t
