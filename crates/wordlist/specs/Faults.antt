-- Each fault's number, layer and figures.
use Rattle.std.specs.Prelude.{ℕ, List, [], ◌∷◌, codes}
use Rattle.wordlist.specs.declared.faults.WordFault.TheVariants.{Short, Foreign}
use Rattle.wordlist.specs.declared.faults.RecordFault.{RecordFault}
use Rattle.wordlist.specs.declared.faults.RecordFault.TheVariants.{Word, OutOfTurn, Full, BadField}
use Rattle.wordlist.specs.declared.faults.Told.{Told}

-- one figure, the others zero
abbrev pub one_figure : ℕ → ℕ → ℕ → Told
one_figure n l i = record { number = n; layer = l; figures = i ∷ 0 ∷ 0 ∷ [] }

-- layer 1 is the words, layer 2 the records; the figure is the word's index, or the list's length where it is short
abbrev pub told : RecordFault → Told
told (Word (Short n)) = one_figure 20 1 n
told (Word (Foreign i)) = one_figure 21 1 i
told (OutOfTurn i) = one_figure 22 2 i
told (Full i) = one_figure 23 2 i
told (BadField i) = one_figure 24 2 i

-- each fault in words
abbrev pub said : RecordFault → List ℕ
said (Word (Short n)) = codes "the list ends before its front word or inside a place"
said (Word (Foreign i)) = codes "this list has no words of that kind"
said (OutOfTurn i) = codes "the word may not stand there, or its key does not rise"
said (Full i) = codes "there are as many such records as there may be already"
said (BadField i) = codes "a field is bad"
