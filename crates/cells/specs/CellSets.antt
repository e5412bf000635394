-- Places that are sets of cells, and their words.
use Rattle.std.specs.Prelude.{ℕ, ◌+◌, ◌*◌, ◌/◌, ◌^◌, Bool, List, ◌∷◌, map, take, ◌==◌, slice_index}
use Rattle.sets.specs.Member.{member}
use Rattle.wordlist.specs.Fields.{field}
use Rattle.listed.specs.Makes.{Make}
use Rattle.cells.specs.declared.cellset.CellSet.{CellSet}

-- a type, and the rows of cells from row 0 on: bit k of a row is the cell in column k
pub record CellRows : Type 0 where
  pub ty : ℕ
  pub rows : List ℕ

-- how many points a cell is wide and high
abbrev pub cell_side : ℕ
cell_side = 16

-- a point belongs to the cell in column x / 16 and row y / 16
abbrev pub in_cells : List ℕ → ℕ → ℕ → Bool
in_cells rows x y = member (slice_index rows (y / cell_side)) (x / cell_side)

-- a row, of kind 5: the cells in bits 0 to 15
abbrev pub row_of : ℕ → ℕ
row_of w = field 0 16 w

-- the head, of kind 4: type in bits 0 to 3, no other bit
abbrev pub head_word : ℕ → ℕ
head_word ty = 4 * 2 ^ 28 + ty

abbrev pub row_word : ℕ → ℕ
row_word row = 5 * 2 ^ 28 + row

-- what a place of cells says of its words, and what it covers; cells off the floor hold no point and are no fault
abbrev pub cells_make : Make CellRows
cells_make = record {
  head = 4;
  body = 5;
  sound_head = λ w. (field 4 24 w == 0);
  sound_body = λ f w. (field 16 12 w == 0);
  place_of = λ f h ws. record { ty = field 0 4 h; rows = map row_of ws };
  spell = λ f p. head_word p.ty ∷ map row_word p.rows;
  meaning = λ p. record { ty = p.ty; covers = in_cells p.rows };
}

-- what a kept place says
abbrev pub cell_rows_of : CellSet → CellRows
cell_rows_of c = record { ty = c.ty; rows = take c.count c.rows }
