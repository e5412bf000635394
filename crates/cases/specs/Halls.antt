-- The halls of the worked cases, by their words.
use Rattle.std.specs.Prelude.{List, [], ◌∷◌, ℕ}
use Rattle.plan.specs.Hall.{Hall}
use Rattle.listed.specs.Reading.{hall_from}
use Rattle.drawn.specs.Drawings.{drawn_make}
use Rattle.zones.specs.Reading.{pile_from}
use Rattle.cells.specs.CellSets.{cells_make}

-- drawn, 8 by 8: place 0 of type 0 is the floor, places 1 and 2 of type 1 its halves, place 3 of type 2 the triangle (1,1) (3,1) (1,3)
abbrev pub eight_words : List ℕ
eight_words =
    0x10001008
    ∷ 0x20000040 ∷ 0x30000000 ∷ 0x30000007 ∷ 0x30000707 ∷ 0x30000700
    ∷ 0x20000041 ∷ 0x30000000 ∷ 0x30000003 ∷ 0x30000703 ∷ 0x30000700
    ∷ 0x20000041 ∷ 0x30000004 ∷ 0x30000007 ∷ 0x30000707 ∷ 0x30000704
    ∷ 0x20000032 ∷ 0x30000101 ∷ 0x30000103 ∷ 0x30000301
    ∷ []

abbrev pub eight : Hall
eight = hall_from drawn_make eight_words

-- cells, 256 by 256: place 0 is the cell in column 1 of row 0
abbrev pub cell_words : List ℕ
cell_words =
    0x10020100
    ∷ 0x40000000
    ∷ 0x50000002 ∷ 0x50000000 ∷ 0x50000000 ∷ 0x50000000 ∷ 0x50000000 ∷ 0x50000000 ∷ 0x50000000 ∷ 0x50000000
    ∷ 0x50000000 ∷ 0x50000000 ∷ 0x50000000 ∷ 0x50000000 ∷ 0x50000000 ∷ 0x50000000 ∷ 0x50000000 ∷ 0x50000000
    ∷ []

abbrev pub one_cell : Hall
one_cell = hall_from cells_make cell_words

-- the hall of eight by eight with one zone over it: place 4 is place 1 without place 3
abbrev pub zoned : Hall
zoned = pile_from eight (0x60003061 ∷ [])
