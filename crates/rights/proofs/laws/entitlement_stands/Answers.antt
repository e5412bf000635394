-- `entitlement_stands`: the laws, proved in Entitling.
use Rattle.rights.proofs.Entitling.{entitled_means, entitled_up, entitled_same}
use Rattle.rights.proofs.laws.entitlement_stands.Goals as goal

pub returns : goal.returns
returns c = record { means = entitled_means; up = entitled_up; same = entitled_same }
