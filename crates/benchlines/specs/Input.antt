-- The lines of an input.
use Rattle.std.specs.Prelude.{ℕ, suc, cond, List, [], ◌∷◌, ◌==◌}
use Rattle.benchlines.specs.declared.input.Lines.{Lines}

-- an input has at most so many bytes
abbrev pub longest_input : ℕ
longest_input = 32768

abbrev pub line_feed : ℕ
line_feed = 10

-- a byte put in front of the first line; alone it is a line
abbrev pub in_front : ℕ → List (List ℕ) → List (List ℕ)
in_front b [] = (b ∷ []) ∷ []
in_front b (l ∷ ls) = (b ∷ l) ∷ ls

-- a line feed ends a line; bytes after the last line feed are one more line
abbrev pub lines_of : List ℕ → List (List ℕ)
lines_of [] = []
lines_of (b ∷ bs) = cond (b == line_feed) ([] ∷ lines_of bs) (in_front b (lines_of bs))

-- how many bytes stand before the first line feed, or in all
abbrev pub line_length : List ℕ → ℕ
line_length [] = 0
line_length (b ∷ bs) = cond (b == line_feed) 0 (suc (line_length bs))

-- the lines that are left
abbrev pub left : Lines → List (List ℕ)
left lines = lines_of lines.rest.now
