-- Entries of rows of sets.
use Rattle.std.proofs.Common.{◌≡◌, ℕ, ◌<◌, ◌≤◌, false, List, length, replicate, ap, ◌∙◌, ⊎_elim, arith}
use lib.ListN.{length-replicate}
use Rattle.std.proofs.lemmas.List.{get_or-replicate, get_or_past}
use Rattle.std.proofs.lemmas.Bool.{cases_lt}
use Rattle.sets.specs.declared.Set64.{Set64}
use Rattle.sets.specs.Member.{member}
use Rattle.sets.specs.Rows.{cell}
use Rattle.sets.proofs.Bits.{member_past}

-- no number is in an entry past the last
pub cell_past : (rows : List Set64) (i j : ℕ) → length rows ≤ i → cell rows i j ≡ false
cell_past rows i j l = ap (λ (s : Set64). member s.bits j) (get_or_past rows i (record { bits = 0 }) l) ∙ member_past 0 0 j (omega arith) (omega arith)

-- entries that are all the set of nothing
pub cell_none : (n : ℕ) (s : Set64) (i j : ℕ) → ((k : ℕ) → member s.bits k ≡ false) → cell (replicate n s) i j ≡ false
cell_none n s i j none =
    ⊎_elim
    (λ (l : i < n). ap (λ (t : Set64). member t.bits j) (get_or-replicate n i s (record { bits = 0 }) l) ∙ none j)
    (λ (l : n ≤ i). let m : length (replicate n s) ≤ i = simp length-replicate l in cell_past (replicate n s) i j m)
    (cases_lt i n)
