-- `striking_stands`: the laws, proved in Striking.
use Rattle.history.proofs.Striking.{struck, struck_runs}
use Rattle.history.proofs.laws.striking_stands.Goals as goal

pub returns : goal.returns
returns c = record { one = struck; runs = struck_runs }
