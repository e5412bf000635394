-- `rights_stand`: the laws, proved in Lending.
use Rattle.rights.proofs.Lending.{right_means, right_down, right_same}
use Rattle.rights.proofs.laws.rights_stand.Goals as goal

pub returns : goal.returns
returns c = record { means = right_means; down = right_down; same = right_same }
