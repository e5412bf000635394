-- `without`: the word that is kept has each bit but k.
use Rattle.std.proofs.Common.{ℕ, ◌-◌, ◌^◌, ◌<◌, Bool, not, ◌&&◌, eqb, sym, ap, ◌∙◌, arith, rules}
use lib.Bits.{bit_and}
use Rattle.std.proofs.lemmas.Nat.{one_shl}
use Rattle.std.proofs.lemmas.Bool.{lt-ltb}
use Rattle.sets.specs.Member.{member}
use Rattle.sets.proofs.Bits.{member_without}
use Rattle.sets.proofs.Set64.without.Goals as goal

pub returns-then-k-lt64 : goal.returns-then-k-lt64
returns-then-k-lt64 c j =
    let low : c.args.k < 64 = omega arith in
    ap (λ (n : ℕ). member (bit_and c.args.self.bits (2 ^ 64 - 1 - n)) j) (one_shl c.args.k 64 low)
    ∙ member_without 64 c.args.self.bits c.args.k j (search rules) low
    ∙ sym (ap (λ (b : Bool). member c.args.self.bits j && not (b && eqb j c.args.k)) (lt-ltb c.args.k 64 low))
