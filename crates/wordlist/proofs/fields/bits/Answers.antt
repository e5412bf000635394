use Rattle.std.proofs.Common.{arith, rules}
use Rattle.wordlist.proofs.Bits.{field_above, field_rest}
use Rattle.wordlist.proofs.fields.bits.Goals as goal

pub returns-then-low-ge32 : goal.returns-then-low-ge32
returns-then-low-ge32 c = field_above c.args.word c.args.low c.args.count (search rules) (omega arith)

pub returns-then-count-ge32 : goal.returns-then-count-ge32
returns-then-count-ge32 c = field_rest c.args.word c.args.low c.args.count (search rules) (omega arith)
