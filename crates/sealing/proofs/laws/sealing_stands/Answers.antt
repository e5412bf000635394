-- `sealing_stands`: the laws, proved in Fitting, Lineages and Enabling.
use Rattle.sealing.proofs.Fitting.{sealed_fits}
use Rattle.sealing.proofs.Lineages.{sealed_lineage}
use Rattle.sealing.proofs.Enabling.{enabled_up}
use Rattle.sealing.proofs.laws.sealing_stands.Goals as goal

pub returns : goal.returns
returns c = record { fits = sealed_fits; lineage = sealed_lineage; enabled = enabled_up }
