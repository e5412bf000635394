-- Worked lists: accepted ones, and one for each way to be refused.
use Rattle.std.specs.Prelude.{◌≡◌, ℕ, zero, suc, List, [], ◌∷◌, Ok, Err}
use Rattle.wordlist.specs.Reading.{Answer}
use Rattle.wordlist.specs.declared.faults.WordFault.TheVariants.{Short, Foreign}
use Rattle.wordlist.specs.declared.faults.RecordFault.TheVariants.{Word, OutOfTurn, Full, BadField}
use Rattle.wordlist.specs.Outcomes.{answered}
use Rattle.policy.specs.Reading.{content_from}

-- the answer to a list
abbrev pub answer_to : List ℕ → Answer
answer_to ws = answered (content_from ws)

-- the policy of the hall: 2 badges, 2 schemas, a parent, 3 roles, a permission of either kind, 2 assignments
abbrev pub hall_words : List ℕ
hall_words =
    0x70000002
    ∷ 0x80000210 ∷ 0x80000021
    ∷ 0x90000020
    ∷ 0xA0000000 ∷ 0xA0000041 ∷ 0xA0000042
    ∷ 0xB0000105 ∷ 0xC0001205
    ∷ 0xD0000001 ∷ 0xD0000040
    ∷ []

-- a word n times
abbrev pub times : ℕ → ℕ → List ℕ
times zero w = []
times (suc n) w = w ∷ times n w

abbrev pub Worked : Type 0
Worked =
    (answer_to hall_words ≡ Ok tt)
    -- no badges word: the list is too short, or its first word is another
    × (answer_to [] ≡ Err (Word (Short 0)))
    × (answer_to (0x80000210 ∷ []) ≡ Err (OutOfTurn 0))
    -- a kind of another list, and a second badges word
    × (answer_to (0x70000002 ∷ 0x60000000 ∷ []) ≡ Err (Word (Foreign 1)))
    × (answer_to (0x70000002 ∷ 0x70000002 ∷ []) ≡ Err (OutOfTurn 1))
    -- 129 badges
    × (answer_to (0x70000081 ∷ []) ≡ Err (BadField 0))
    -- the kind falls
    × (answer_to (0x70000002 ∷ 0x80000210 ∷ 0xA0000000 ∷ 0x80000021 ∷ []) ≡ Err (OutOfTurn 3))
    -- a key that falls, and one that is the same; its stray bit is not reached
    × (answer_to (0x70000002 ∷ 0x80000210 ∷ 0x80000021 ∷ 0x90000020 ∷ 0xA0000041 ∷ 0xA0000000 ∷ []) ≡ Err (OutOfTurn 5))
    × (answer_to (0x70000002 ∷ 0x80000210 ∷ 0x80000021 ∷ 0x90000020 ∷ 0x90000420 ∷ []) ≡ Err (OutOfTurn 4))
    -- a parent that is its own child, and a badge that is not there
    × (answer_to (0x70000002 ∷ 0x80000210 ∷ 0x90000000 ∷ []) ≡ Err (BadField 2))
    × (answer_to (0x70000002 ∷ 0x80000210 ∷ 0xA0000000 ∷ 0xD0000080 ∷ []) ≡ Err (BadField 3))
    -- a role's place is not looked at
    × (answer_to (0x70000002 ∷ 0x80000210 ∷ 0xA000003F ∷ []) ≡ Ok tt)
    -- one schema too many
    × (answer_to (0x70000001 ∷ times 33 0x80000000) ≡ Err (Full 33))
