-- The derived orders of the two kinds of key, as the definitions have them.
use Rattle.std.proofs.Common.{◌≡◌, arith}
use Rattle.std.proofs.lemmas.Bool.Decides.{nat_tests}
use Rattle.std.specs.Ordering.{nat_cmp, ordering_then, is_lt}
use Rattle.keyed.specs.declared.pair.Pair.{Pair}
use Rattle.keyed.specs.declared.triple.Triple.{Triple}
use Rattle.keyed.specs.Orders.{below}
use Rattle.keyed.specs.Models.{pair_less, triple_less}

pub pair_order : (a b : Pair) → is_lt (ordering_then (nat_cmp a.high b.high) (nat_cmp a.low b.low)) ≡ pair_less a b
pair_order a b = grind (arith, nat_tests)

pub triple_order : (a b : Triple) → is_lt (ordering_then (nat_cmp a.high b.high) (ordering_then (nat_cmp a.mid b.mid) (nat_cmp a.low b.low))) ≡ triple_less a b
triple_order a b = grind (arith, nat_tests)

-- the same of the orders as functions
pub pairs_below : below (λ (a b : Pair). ordering_then (nat_cmp a.high b.high) (nat_cmp a.low b.low)) ≡ pair_less
pairs_below = λ i a b. pair_order a b i

pub triples_below : below (λ (a b : Triple). ordering_then (nat_cmp a.high b.high) (ordering_then (nat_cmp a.mid b.mid) (nat_cmp a.low b.low))) ≡ triple_less
triples_below = λ i a b. triple_order a b i
