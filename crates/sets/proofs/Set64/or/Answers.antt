-- `or`: a bit of the word made is set where either is.
use Rattle.sets.proofs.Bits.{member_or}
use Rattle.sets.proofs.Set64.or.Goals as goal

pub returns : goal.returns
returns c = member_or c.args.self.bits c.args.other.bits
