-- How words are written out as a text.
use Rattle.std.specs.Prelude.{ℕ, zero, suc, ◌+◌, ◌/◌, ◌%◌, ◌^◌, ◌<◌, cond, List, [], ◌∷◌, ◌++◌, codes, nat_lt}
use Rattle.plantext.specs.declared.page.Heading.TheVariants.{Drawn}
use Rattle.plantext.specs.Reading.{Content}

-- a digit as a character: `0` to `9`, `A` to `F`
abbrev pub digit_char : ℕ → ℕ
digit_char d = cond (nat_lt d 10) (48 + d) (55 + d)

-- the last n hexadecimal digits of a word
abbrev pub digits_of : ℕ → ℕ → List ℕ
digits_of zero w = []
digits_of (suc n) w = digit_char (w / 16 ^ n % 16) ∷ digits_of n w

-- each word with eight digits, on a line of its own
abbrev pub word_lines : List ℕ → List ℕ
word_lines [] = []
word_lines (w ∷ ws) = digits_of 8 w ++ 10 ∷ word_lines ws

-- words as a text: the section line, and a line for each word
abbrev pub written : List ℕ → List ℕ
written ws = codes "drawn" ++ 10 ∷ word_lines ws

-- each is below 2 ^ 32
abbrev pub Words : List ℕ → Type 0
Words [] = Unit {0}
Words (w ∷ ws) = (w < 2 ^ 32) × Words ws

-- one section with these words
abbrev pub drawing : List ℕ → Content
drawing ws = record { sections = record { heading = Drawn; first = 0 } ∷ []; words = ws }
