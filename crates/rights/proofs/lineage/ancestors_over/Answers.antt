-- `ancestors_over`: the closure of what was surveyed gives the ancestors.
use Rattle.std.proofs.Common.{◌≡◌, ℕ, Bool, refl, rules, ◌∙◌}
use Rattle.plan.specs.Lying.{lies_in}
use Rattle.sets.specs.Rows.{cell}
use Rattle.survey.specs.Kept.{kept_lies}
use Rattle.policy.specs.Contents.{role_at}
use Rattle.policy.specs.Policies.{says}
use Rattle.rights.specs.Ancestors.{ancestor}
use Rattle.rights.proofs.Ancestral.{tables_meant}
use Rattle.rights.proofs.lineage.ancestors_over.Goals as goal

pub returns : goal.returns
returns c =
    let p = c.args.policy.now in
    let kept = kept_lies c.args.survey.now in
    let by : (lies : ℕ → ℕ → Bool) → ((i j : ℕ) → kept i j ≡ lies i j) → (r a : ℕ) → cell c.ancestors_by.result r a ≡ ancestor lies (says p) r a
    = λ lies same r a. c.ancestors_by.ensures kept (λ i j b il jl e. search rules) r a
    ∙ tables_meant p (cell c.closure-reach.result) kept lies c.closure-reach.ensures (λ q b ql bl. same (role_at (says p) q).extent (role_at (says p) b).extent) r a in
    record { kept = by kept (λ i j. refl); meant = λ h tied. by (lies_in h) tied.lies }
