-- Worked texts.
use Rattle.std.specs.Prelude.{◌≡◌, ℕ, List, [], ◌∷◌, ◌++◌, map, Ok, Err, codes, Result}
use Rattle.plantext.specs.declared.faults.Reason.TheVariants.{NoSection, SectionOutOfPlace, BadDigit, LongWord, MissingSection}
use Rattle.plantext.specs.declared.faults.TextFault.{TextFault}
use Rattle.plantext.specs.declared.faults.Reason.{Reason}
use Rattle.plantext.specs.declared.page.Heading.TheVariants.{Cells, Zones, Policy}
use Rattle.plantext.specs.Reading.{Content, words_at, text_of, on_line}
use Rattle.plantext.specs.Writing.{drawing}

-- each line with the line feed that ends it
abbrev pub ended : List (List ℕ) → List ℕ
ended [] = []
ended (l ∷ ls) = l ++ 10 ∷ ended ls

-- a fault of a text
abbrev pub refused : ℕ → Reason → Result Content TextFault
refused n r = on_line n (Err r)

-- a plan of cells with two sections of zones, the second of them empty, and a policy
abbrev pub full : Content
full =
    record {
      sections = record { heading = Cells; first = 0 } ∷ record { heading = Zones; first = 2 } ∷ record { heading = Zones; first = 3 } ∷ record { heading = Policy; first = 3 } ∷ [];
      words = 1 ∷ 2 ∷ 3 ∷ 4 ∷ [];
    }

-- texts that are read, the words of a section, and texts that are refused
abbrev pub Worked : Type 0
Worked =
    (text_of (ended (codes "# a hall" ∷ codes " drawn # the list" ∷ [] ∷ codes "10001008  aF#1" ∷ [])) ≡ Ok (drawing (0x10001008 ∷ 0xaf ∷ [])))
    × (text_of (codes "drawn") ≡ Ok (drawing []))
    × (text_of (ended (codes "7" ∷ codes "drawn" ∷ [])) ≡ refused 1 NoSection)
    × (text_of (ended (codes "cells" ∷ codes "1 2" ∷ codes "zones" ∷ codes "3" ∷ codes "zones" ∷ codes "policy" ∷ codes "4" ∷ [])) ≡ Ok full)
    × (map (λ k. words_at k full) (0 ∷ 1 ∷ 2 ∷ 3 ∷ 4 ∷ []) ≡ (1 ∷ 2 ∷ []) ∷ (3 ∷ []) ∷ [] ∷ (4 ∷ []) ∷ [] ∷ [])
    × (text_of (ended (codes "drawn" ∷ codes "1" ∷ codes "cells" ∷ [])) ≡ refused 3 SectionOutOfPlace)
    × (text_of (ended (codes "zones" ∷ codes "drawn" ∷ [])) ≡ refused 1 SectionOutOfPlace)
    × (text_of (ended (codes "drawn" ∷ codes "zones" ∷ codes "zones" ∷ codes "zones" ∷ [])) ≡ refused 4 SectionOutOfPlace)
    × (text_of (ended (codes "drawn" ∷ codes "policy" ∷ codes "policy" ∷ [])) ≡ refused 3 SectionOutOfPlace)
    × (text_of (ended (codes "drawn" ∷ codes "policy" ∷ codes "zones" ∷ [])) ≡ refused 3 SectionOutOfPlace)
    × (text_of (ended (codes "drawn" ∷ codes "1 drawn" ∷ [])) ≡ refused 2 BadDigit)
    × (text_of (ended (codes "drawn" ∷ (49 ∷ 9 ∷ []) ∷ [])) ≡ refused 2 BadDigit)
    × (text_of (ended (codes "drawn" ∷ codes "123456789" ∷ [])) ≡ refused 2 LongWord)
    × (text_of (ended (codes "# nothing" ∷ [] ∷ [])) ≡ refused 3 MissingSection)
    × (text_of [] ≡ refused 1 MissingSection)
