-- Worked sealings over the hall of eight by eight: an accepted one, and two with a place that does not fit.
use Rattle.std.specs.Prelude.{◌≡◌, ℕ, List, [], ◌∷◌, ◌++◌, Ok, Err, Result}
use Rattle.plan.specs.Hall.{Hall}
use Rattle.listed.specs.Reading.{hall_from}
use Rattle.drawn.specs.Drawings.{drawn_make}
use Rattle.policy.specs.Worked.{hall_words}
use Rattle.checks.specs.declared.faults.SealFault.{SealFault}
use Rattle.checks.specs.declared.faults.SealFault.TheVariants.{Outside, Overlap}
use Rattle.sealing.specs.Outcome.{sealing, sealed_or}
use Rattle.cases.specs.Halls.{eight_words, eight}

-- the hall with place 3 at (3,1) (5,1) (3,3)
abbrev pub moved_words : List ℕ
moved_words =
    0x10001008
    ∷ 0x20000040 ∷ 0x30000000 ∷ 0x30000007 ∷ 0x30000707 ∷ 0x30000700
    ∷ 0x20000041 ∷ 0x30000000 ∷ 0x30000003 ∷ 0x30000703 ∷ 0x30000700
    ∷ 0x20000041 ∷ 0x30000004 ∷ 0x30000007 ∷ 0x30000707 ∷ 0x30000704
    ∷ 0x20000032 ∷ 0x30000103 ∷ 0x30000105 ∷ 0x30000303
    ∷ []

abbrev pub moved : Hall
moved = hall_from drawn_make moved_words

-- the hall with a place 4 of type 1 at (2,0) (5,0) (5,7) (2,7)
abbrev pub added_words : List ℕ
added_words = eight_words ++ (0x20000041 ∷ 0x30000002 ∷ 0x30000005 ∷ 0x30000705 ∷ 0x30000702 ∷ [])

abbrev pub added : Hall
added = hall_from drawn_make added_words

-- the answer to sealing the worked policy over a hall
abbrev pub answer_over : Hall → Result (Unit {0}) SealFault
answer_over h = sealed_or (sealing h hall_words)

abbrev pub Rows : Type 0
Rows =
    (answer_over eight ≡ Ok tt)
    -- place 3 is of the logic type of schema 1, and lies in no place of its extent type
    × (answer_over moved ≡ Err (Outside 1 3))
    -- place 3 shares a point with place 4, which is of that type, and does not lie in it
    × (answer_over added ≡ Err (Overlap 1 3 4))
