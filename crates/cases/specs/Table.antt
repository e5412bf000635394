-- The table of worked cases.
use Rattle.std.specs.Prelude.{true, false, ◌≡◌}
use Rattle.plan.specs.Hall.{covers_at}
use Rattle.cases.specs.Halls.{eight, one_cell, zoned}

abbrev pub Table : Type 0
Table =
    -- the triangle covers a point on its edge, and not the one beside it
    (covers_at eight 3 2 2 ≡ true)
    × (covers_at eight 3 3 2 ≡ false)
    -- the half without the triangle covers the point beside it, and not the one on its edge
    × (covers_at zoned 4 3 2 ≡ true)
    × (covers_at zoned 4 2 2 ≡ false)
    -- the cell in column 1 and row 0 ends at (31, 15)
    × (covers_at one_cell 0 31 15 ≡ true)
    × (covers_at one_cell 0 32 0 ≡ false)
