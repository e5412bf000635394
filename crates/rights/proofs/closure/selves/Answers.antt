-- `selves`: each entry is what one call gave.
use Rattle.std.proofs.Common.{arith}
use Rattle.rights.proofs.closure.selves.Goals as goal

pub returns : goal.returns
returns c s a l = (c.from_fn.ensures.items.at s (record { bits = 0 }) l).2.met (omega arith) a
