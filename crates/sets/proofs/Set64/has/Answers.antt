-- `has`: the shifted word ends in the bit asked for, and past the word there is none.
use Rattle.std.proofs.Common.{ℕ, eqb, sym, ap, ◌∙◌, arith, rules}
use Rattle.std.proofs.lemmas.Nat.{and_mask}
use Rattle.std.proofs.lemmas.Bool.{le-ltb}
use Rattle.sets.proofs.Bits.{member_past}
use Rattle.sets.proofs.Set64.has.Goals as goal

pub returns-then-k-lt64 : goal.returns-then-k-lt64
returns-then-k-lt64 c = ap (λ (n : ℕ). eqb n 1) (and_mask _ 1)

pub returns-else-k-lt64 : goal.returns-else-k-lt64
returns-else-k-lt64 c = le-ltb c.args.k 64 (omega arith) ∙ sym (member_past c.args.self.bits 64 c.args.k (search rules) (omega arith))
