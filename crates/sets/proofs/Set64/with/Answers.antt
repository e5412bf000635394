-- `with`: the word that is joined on has bit k alone.
use Rattle.std.proofs.Common.{ℕ, ◌<◌, Bool, ◌&&◌, ◌||◌, eqb, sym, ap, ◌∙◌, arith}
use lib.Bits.{bit_or}
use Rattle.std.proofs.lemmas.Nat.{one_shl}
use Rattle.std.proofs.lemmas.Bool.{lt-ltb}
use Rattle.sets.specs.Member.{member}
use Rattle.sets.proofs.Bits.{member_or, member_pow}
use Rattle.sets.proofs.Set64.with.Goals as goal

pub returns-then-k-lt64 : goal.returns-then-k-lt64
returns-then-k-lt64 c j =
    let low : c.args.k < 64 = omega arith in
    ap (λ (n : ℕ). member (bit_or c.args.self.bits n) j) (one_shl c.args.k 64 low)
    ∙ member_or c.args.self.bits _ j
    ∙ ap (λ (b : Bool). member c.args.self.bits j || b) (member_pow c.args.k j)
    ∙ sym (ap (λ (b : Bool). member c.args.self.bits j || (b && eqb j c.args.k)) (lt-ltb c.args.k 64 low))
