-- The words of what was read.
use Rattle.std.specs.Prelude.{◌≡◌, ℕ, true, List, [], ◌∷◌, ◌++◌, Ok}
use Rattle.wordlist.specs.Reading.{Rules, run}
use Rattle.wordlist.specs.Fields.{kind_of}

-- a word that breaks no rule
pub record Passes {S : Type 0} (g : Rules S) (s : S) (w : ℕ) : Type 0 where
  pub member : g.member (kind_of w) ≡ true
  pub turn : g.turn s w ≡ true
  pub room : g.room s w ≡ true
  pub sound : g.sound s w ≡ true

-- each word that passes is added to the words of what was read
abbrev pub Adds : {S : Type 0} → Rules S → (S → List ℕ) → (S → Type 0) → Type 0
Adds {S} g spelled Good = (s : S) (w : ℕ) → Good s → Passes g s w → (spelled (g.taken s w) ≡ spelled s ++ w ∷ []) × Good (g.taken s w)

-- the words lead from s to t, wherever they stand
abbrev pub Reads : {S : Type 0} → Rules S → S → List ℕ → S → Type 0
Reads g s ws t = (i : ℕ) → run g s i ws ≡ (t, Ok tt)
