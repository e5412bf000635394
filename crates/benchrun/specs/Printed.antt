-- What is printed for an input, by the calls of its lines alone.
use Rattle.std.specs.Prelude.{ℕ, Bool, cond, List, [], ◌∷◌, ◌++◌, length, Some, None, codes, Option, nat_lt}
use Rattle.std.specs.Option.{option_map}
use Rattle.calls.specs.declared.call.Call.{Call}
use Rattle.calls.specs.Answers.{Answer}
use Rattle.sealing.specs.Ground.{Ground}
use Rattle.history.specs.History.{answer}
use Rattle.benchlines.specs.Answers.{answer_text}
use Rattle.benchlines.specs.Input.{line_feed, lines_of, longest_input}
use Rattle.benchlines.specs.Lines.{line_call}

-- a text and the line feed that ends it
abbrev pub ended : List ℕ → List ℕ
ended text = text ++ line_feed ∷ []

-- what is printed for a line with this answer; a bad line has none
abbrev pub text_of : Option Answer → List ℕ
text_of None = ended (codes "bad")
text_of (Some a) = ended (answer_text a)

-- past calls, newest first, with the call of a line; a bad line makes none
abbrev pub with_call : Option Call → List Call → List Call
with_call None past = past
with_call (Some c) past = c ∷ past

-- past calls with those of lines
abbrev pub with_calls : List (List ℕ) → List Call → List Call
with_calls [] past = past
with_calls (l ∷ ls) past = with_calls ls (with_call (line_call l) past)

-- the input has more bytes than are answered
abbrev pub too_long : List ℕ → Bool
too_long input = nat_lt longest_input (length input)

-- the calls that an input makes, newest first
abbrev pub calls_of : List ℕ → List Call
calls_of input = cond (too_long input) [] (with_calls (lines_of input) [])

module _ (g : Ground) where
  -- what is printed for a line that makes this call, if any, after past calls
  abbrev pub line_text : List Call → Option Call → List ℕ
  line_text past call = text_of (option_map (answer g past) call)

  -- what is printed for lines after past calls
  abbrev pub line_texts : List Call → List (List ℕ) → List ℕ
  line_texts past [] = []
  line_texts past (l ∷ ls) = line_text past (line_call l) ++ line_texts (with_call (line_call l) past) ls

  -- what is printed for an input, from the sealing on
  abbrev pub printed : List ℕ → List ℕ
  printed input = cond (too_long input) (ended (codes "long")) (line_texts [] (lines_of input))
