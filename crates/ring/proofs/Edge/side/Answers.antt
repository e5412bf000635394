-- `side`: the difference of two products of steps fits.
use Rattle.std.proofs.Common.{arith}
use Rattle.std.proofs.lemmas.Int.{to_z-of_z}
use Rattle.ring.proofs.Products.{minus_fits}
use Rattle.ring.proofs.Edge.side.Goals as goal

pub overflow_sub-result : goal.overflow_sub-result
overflow_sub-result c = minus_fits c.times.result c.times-2.result c.times.ensures.bound c.times-2.ensures.bound

pub returns : goal.returns
returns c =
    let f = minus_fits c.times.result c.times-2.result c.times.ensures.bound c.times-2.ensures.bound in
    grind (arith, to_z-of_z)
