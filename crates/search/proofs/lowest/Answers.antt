-- `lowest`: what `find` gives over the range is the lowest number that passes.
use Rattle.std.proofs.Common.{rules, ◌≡◌, ◌<◌, true, false, is_some, ap, ◌∙◌}
use Rattle.std.proofs.lemmas.Iterator.{first_from_Range}
use Rattle.search.proofs.Finding.{lowest_from, lowest_some}
use Rattle.search.proofs.lowest.Goals as goal

pub returns-clause-value : goal.returns-clause-value
returns-clause-value g c p h =
    lowest_from p c.args.n c.find.result
    (first_from_Range _ _ _ c.find.result (λ k. k < c.args.n → p k ≡ true) (λ k. k < c.args.n → p k ≡ false) c.find.ensures.ran (λ x q k l. search rules) (λ x q k. search rules))

pub returns-clause-found : goal.returns-clause-found
returns-clause-found g c p h = ap is_some (returns-clause-value g c p h) ∙ lowest_some p c.args.n
