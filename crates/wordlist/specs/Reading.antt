-- How a list of words is read: word by word, up to the first that breaks a rule.
use Rattle.std.specs.Prelude.{ℕ, ◌+◌, Bool, cond, ◌&&◌, List, [], ◌∷◌, length, Ok, Err, Result}
use Rattle.wordlist.specs.Fields.{kind_of}
use Rattle.wordlist.specs.declared.faults.WordFault.TheVariants.{Short, Foreign}
use Rattle.wordlist.specs.declared.faults.RecordFault.{RecordFault}
use Rattle.wordlist.specs.declared.faults.RecordFault.TheVariants.{Word, OutOfTurn, Full, BadField}

-- What a kind of list says of a word after the words before it, of which S is what was read.
pub record Rules (S : Type 0) : Type 0 where
  pub member : ℕ → Bool  -- the kinds of this list
  pub turn : S → ℕ → Bool  -- the word may stand here
  pub room : S → ℕ → Bool  -- no limit is passed
  pub sound : S → ℕ → Bool  -- its fields are good
  pub taken : S → ℕ → S  -- what was read, with this word
  pub owes : S → Bool  -- the list may not end here

-- read to the end, or the fault that ended the reading
abbrev pub Answer : Type 0
Answer = Result (Unit {0}) RecordFault

-- the word at index i: 21, 22, 23, 24, in this order
abbrev pub judge : {S : Type 0} → Rules S → S → ℕ → ℕ → Answer
judge g s i w =
    cond (g.member (kind_of w))
    (cond (g.turn s w)
    (cond (g.room s w)
    (cond (g.sound s w) (Ok tt) (Err (BadField i)))
    (Err (Full i)))
    (Err (OutOfTurn i)))
    (Err (Word (Foreign i)))

-- the word breaks none of the rules 22, 23 and 24
abbrev pub passing : {S : Type 0} → Rules S → S → ℕ → Bool
passing g s w = g.turn s w && (g.room s w && g.sound s w)

-- a word that breaks no rule is taken, any other changes nothing
abbrev pub takes : {S : Type 0} → Rules S → S → ℕ → S
takes g s w = cond (passing g s w) (g.taken s w) s

-- a fault ends the reading with what was read before
abbrev pub onward : {S : Type 0} → Answer → S → S × Answer → S × Answer
onward (Ok u) s rest = rest
onward (Err f) s rest = (s, Err f)

-- the words from index i on
abbrev pub run : {S : Type 0} → Rules S → S → ℕ → List ℕ → S × Answer
run g s i [] = (s, Ok tt)
run g s i (w ∷ ws) = onward (judge g s i w) s (run g (g.taken s w) (i + 1) ws)

-- the end of a list of n words
abbrev pub ended : {S : Type 0} → Rules S → ℕ → S × Answer → S × Answer
ended g n (s, Ok u) = (s, cond (g.owes s) (Err (Word (Short n))) (Ok tt))
ended g n (s, Err f) = (s, Err f)

-- a whole list, from the state s: what was read, and the answer
abbrev pub read_of : {S : Type 0} → Rules S → S → List ℕ → S × Answer
read_of g s ws = ended g (length ws) (run g s 0 ws)
