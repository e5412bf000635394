-- `ancestors_stand`: the law, from that of sealing by Above.
use Rattle.sealing.proofs.Enabling.{enabled_up}
use Rattle.history.proofs.Above.{above_from}
use Rattle.history.proofs.laws.ancestors_stand.Goals as goal

pub returns : goal.returns
returns c = above_from enabled_up
