-- The words of a layout.
use Rattle.std.specs.Prelude.{ℕ, ◌+◌, ◌*◌, ◌^◌, List, ◌∷◌}
use Rattle.std.specs.List.{flat_map}
use Rattle.listed.specs.declared.floor.Floor.{Floor}
use Rattle.listed.specs.Layouts.{Layout}
use Rattle.listed.specs.Makes.{Make}

abbrev pub floor_word : Floor → ℕ
floor_word f = 1 * 2 ^ 28 + f.height * 2 ^ 9 + f.width

-- the floor word, and then the words of each place
abbrev pub spelled : {P : Type 0} → Make P → Layout P → List ℕ
spelled m l = floor_word l.floor ∷ flat_map (m.spell l.floor) l.places
