-- Each reason in words.
use Rattle.std.specs.Prelude.{ℕ, List, codes}
use Rattle.plantext.specs.declared.faults.Reason.{Reason}
use Rattle.plantext.specs.declared.faults.Reason.TheVariants.{NoSection, SectionOutOfPlace, BadDigit, LongWord, MissingSection, NoRoom}

-- the bytes of a reason's text
abbrev pub spoken : Reason → List ℕ
spoken NoSection = codes "a word stands before any section line"
spoken SectionOutOfPlace = codes "section out of place: first drawn or cells, then zones up to twice, then policy"
spoken BadDigit = codes "a word has a character that is no hexadecimal digit"
spoken LongWord = codes "a word has more than eight characters; only spaces separate words"
spoken MissingSection = codes "no section line: drawn or cells is wanted"
spoken NoRoom = codes "no room for a text of this length"
