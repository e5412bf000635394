-- `gather`: the numbers that pass are put in, and the set is of those.
use Rattle.std.proofs.Common.{rules}
use Rattle.search.proofs.Gathering.{all_found, is_gathered}
use Rattle.search.proofs.gather.Goals as goal

pub returns-clause-members : goal.returns-clause-members
returns-clause-members g c p h =
    all_found _ _ p _ _ (λ x b q k. (search rules, λ l. search rules)) (λ a x b q k. search rules)
    c.filter.result c.none.result c.fold.result c.filter.ensures.source c.filter.ensures.closure c.none.ensures c.fold.ensures.ran

pub returns-clause-value : goal.returns-clause-value
returns-clause-value g c p h = is_gathered p c.fold.result (search rules) (returns-clause-members g c p h)
