-- The parts of a text: lines, what stands before a comment, words.
use Rattle.std.specs.Prelude.{ℕ, cond, List, [], ◌∷◌, ◌==◌}

-- what stands before the first byte b, or all where there is none
abbrev pub before : ℕ → List ℕ → List ℕ
before b [] = []
before b (x ∷ xs) = cond (x == b) [] (x ∷ before b xs)

-- what stands after the first byte b, or nothing where there is none
abbrev pub after : ℕ → List ℕ → List ℕ
after b [] = []
after b (x ∷ xs) = cond (x == b) xs (after b xs)

-- the parts with x in front of the first of them
abbrev pub with_first : ℕ → List (List ℕ) → List (List ℕ)
with_first x [] = (x ∷ []) ∷ []
with_first x (p ∷ ps) = (x ∷ p) ∷ ps

-- the parts that end at a byte b or at the end; none follows a final b
abbrev pub parts_of : ℕ → List ℕ → List (List ℕ)
parts_of b [] = []
parts_of b (x ∷ xs) = cond (x == b) ([] ∷ parts_of b xs) (with_first x (parts_of b xs))

-- the parts that hold something
abbrev pub filled : List (List ℕ) → List (List ℕ)
filled [] = []
filled ([] ∷ ps) = filled ps
filled ((x ∷ xs) ∷ ps) = (x ∷ xs) ∷ filled ps

-- the lines of a text, which end at line feeds
abbrev pub lines_of : List ℕ → List (List ℕ)
lines_of bs = parts_of 10 bs

-- a line without its comment, which starts at the first `#`
abbrev pub said : List ℕ → List ℕ
said line = before 35 line

-- the words of a line, with one or more spaces between them
abbrev pub words_of : List ℕ → List (List ℕ)
words_of line = filled (parts_of 32 line)
