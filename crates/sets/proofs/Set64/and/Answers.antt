-- `and`: a bit of the word made is set where both are.
use Rattle.sets.proofs.Bits.{member_and}
use Rattle.sets.proofs.Set64.and.Goals as goal

pub returns : goal.returns
returns c = member_and c.args.self.bits c.args.other.bits
