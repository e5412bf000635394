-- A word is its fields, so a place of cells gives back the words that it was read from.
use Rattle.std.specs.Prelude.{◌≡◌, ℕ, ◌/◌, ◌<◌, ◌≤◌, Bool, false, List, [], ◌∷◌, map, length, take, slice_index, refl}
use Rattle.std.proofs.Common.{sym, ap, ◌∙◌, arith}
use Rattle.std.specs.List.{AllByRecursion}
use Rattle.std.proofs.lemmas.Bool.{eqb-true}
use Rattle.std.proofs.lemmas.List.{get_or_past, get_or-take, length-take}
use Rattle.sets.specs.Member.{member}
use Rattle.sets.proofs.Bits.{member_past}
use Rattle.wordlist.specs.Fields.{field, kind_of}
use Rattle.listed.specs.declared.floor.Floor.{Floor}
use Rattle.listed.specs.Makes.{GoodBody, Exact}
use Rattle.cells.specs.CellSets.{cell_side, in_cells, row_of, head_word, row_word, cells_make}

head_word_spelled : (w : ℕ) → kind_of w ≡ 4 → field 4 24 w ≡ 0 → head_word (field 0 4 w) ≡ w
head_word_spelled w k u = omega arith

row_word_spelled : (w : ℕ) → kind_of w ≡ 5 → field 16 12 w ≡ 0 → row_word (row_of w) ≡ w
row_word_spelled w k u = omega arith

rows_back : (f : Floor) (ws : List ℕ) → AllByRecursion (GoodBody cells_make f) ws → map row_word (map row_of ws) ≡ ws
rows_back f [] a = refl
rows_back f (w ∷ ws) a = ap (λ v. v ∷ map row_word (map row_of ws)) (row_word_spelled w a.0.kind (eqb-true (field 16 12 w) 0 a.0.sound)) ∙ ap (λ vs. w ∷ vs) (rows_back f ws a.1)

pub exact : Exact cells_make
exact f h ws g =
    ap (λ v. v ∷ map row_word (map row_of ws)) (head_word_spelled h g.kind (eqb-true (field 4 24 h) 0 g.sound))
    ∙ ap (λ vs. h ∷ vs) (rows_back f ws g.each)

-- a row that is not there has no cell, and one that is there is looked up
pub no_row : (rows : List ℕ) (n x y : ℕ) → n ≤ y / cell_side → false ≡ in_cells (take n rows) x y
no_row rows n x y l =
    let past : length (take n rows) ≤ y / cell_side = omega (arith, length-take n rows) in
    sym (ap (λ r. member r (x / cell_side)) (get_or_past (take n rows) (y / cell_side) 0 past) ∙ member_past 0 0 (x / cell_side) (omega arith) (omega arith))

pub at_row : (rows : List ℕ) (n x y : ℕ) (b : Bool) → y / cell_side < n → b ≡ member (slice_index rows (y / cell_side)) (x / cell_side) → b ≡ in_cells (take n rows) x y
at_row rows n x y b l e = e ∙ sym (ap (λ r. member r (x / cell_side)) (get_or-take n rows (y / cell_side) 0 l))
