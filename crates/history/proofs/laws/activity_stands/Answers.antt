-- `activity_stands`: the law, proved in Activity.
use Rattle.history.proofs.Activity.{active_means}
use Rattle.history.proofs.Exactly.{closed_empty}
use Rattle.history.proofs.laws.activity_stands.Goals as goal

pub returns : goal.returns
returns c = record { means = active_means; empty = closed_empty }
