-- `all`: the largest word has each bit set.
use Rattle.sets.proofs.Bits.{member_all}
use Rattle.sets.proofs.Set64.all.Goals as goal

pub returns : goal.returns
returns c = member_all 64
