-- `granting_stands`: the law, proved in Exactly.
use Rattle.history.proofs.Exactly.{grants_exactly}
use Rattle.history.proofs.laws.granting_stands.Goals as goal

pub returns : goal.returns
returns c = grants_exactly
