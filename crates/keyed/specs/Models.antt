-- The orders of the two kinds of key: field by field, the highest first.
use Rattle.std.specs.Prelude.{Bool, cond, ◌==◌, nat_lt}
use Rattle.keyed.specs.declared.pair.Pair.{Pair}
use Rattle.keyed.specs.declared.triple.Triple.{Triple}

-- pairs: by the high field, and by the low one where the high ones are the same
abbrev pub pair_less : Pair → Pair → Bool
pair_less a b = cond (a.high == b.high) (nat_lt a.low b.low) (nat_lt a.high b.high)

-- triples: by the high field, then by the middle one, then by the low one
abbrev pub triple_less : Triple → Triple → Bool
triple_less a b = cond (a.high == b.high) (cond (a.mid == b.mid) (nat_lt a.low b.low) (nat_lt a.mid b.mid)) (nat_lt a.high b.high)
