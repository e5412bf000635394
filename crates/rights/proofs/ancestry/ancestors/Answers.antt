-- `ancestors`: the table says which place lies in which.
use Rattle.std.proofs.Common.{rules}
use Rattle.sets.specs.Rows.{cell}
use Rattle.rights.proofs.ancestry.ancestors.Goals as goal

pub returns : goal.returns
returns c = c.ancestors_by.ensures (cell c.args.lies.now) (λ i j b il jl e. search rules)
