-- `ancestry_stands`: the laws, proved in Ancestral.
use Rattle.rights.proofs.Ancestral.{ancestor_means, ancestor_itself, ancestor_on, tables_meant}
use Rattle.rights.proofs.laws.ancestry_stands.Goals as goal

pub returns : goal.returns
returns c = record { means = ancestor_means; itself = ancestor_itself; on = ancestor_on; same = tables_meant }
