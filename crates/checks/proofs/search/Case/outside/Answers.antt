-- `outside`: what is asked of each place.
use Rattle.std.proofs.Common.{ℕ, ap, ◌∙◌, rules}
use Rattle.sets.specs.Bounds.{first_of}
use Rattle.checks.specs.Faults.{outside}
use Rattle.checks.specs.Cases.{of_case}
use Rattle.checks.proofs.search.Case.outside.Goals as goal

pub returns : goal.returns
returns c =
    let finds = of_case outside c.args.self c.args.schema in
    c.first.ensures finds (λ k r l q. search rules) ∙ ap (λ (n : ℕ). first_of n finds) c.count.ensures.kept
