use Rattle.std.proofs.Common.{ℕ, eqb, sym, ap, ◌∙◌, arith, rules}
use Rattle.std.proofs.lemmas.Nat.{and_mask}
use Rattle.std.proofs.lemmas.Bool.{le-ltb}
use Rattle.sets.proofs.Bits.{member_past}
use Rattle.cells.proofs.shape.has_column.Goals as goal

pub returns-then-column-lt16 : goal.returns-then-column-lt16
returns-then-column-lt16 c = ap (λ (n : ℕ). eqb n 1) (and_mask _ 1)

pub returns-else-column-lt16 : goal.returns-else-column-lt16
returns-else-column-lt16 c = le-ltb c.args.column 16 (omega arith) ∙ sym (member_past c.args.row 16 c.args.column (search rules) (omega arith))
