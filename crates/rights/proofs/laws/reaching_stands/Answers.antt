-- `reaching_stands`: the laws, proved in Reaching.
use Rattle.rights.proofs.Reaching.{reaches_means, reaches_itself, reaches_on}
use Rattle.rights.proofs.laws.reaching_stands.Goals as goal

pub returns : goal.returns
returns c = record { means = reaches_means; itself = reaches_itself; on = reaches_on }
