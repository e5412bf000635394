-- What a make of place says of its words.
use Rattle.std.specs.Prelude.{◌≡◌, ℕ, Bool, true, List, ◌∷◌, length}
use Rattle.std.specs.List.{AllByRecursion}
use Rattle.plan.specs.Hall.{Place}
use Rattle.wordlist.specs.Fields.{kind_of}
use Rattle.wordlist.specs.Cutting.{body_of}
use Rattle.listed.specs.declared.floor.Floor.{Floor}

pub record Make (P : Type 0) : Type 0 where
  pub head : ℕ  -- the kind of a place's head
  pub body : ℕ  -- the kind of the words after it
  pub sound_head : ℕ → Bool  -- the head's fields are good
  pub sound_body : Floor → ℕ → Bool  -- the fields of a word after it are good
  pub place_of : Floor → ℕ → List ℕ → P  -- the place of a head and the words after it
  pub spell : Floor → P → List ℕ  -- the words of a place
  pub meaning : P → Place  -- its type and its points

module _ {P : Type 0} (m : Make P) where
  -- a good word after the head
  pub record GoodBody (f : Floor) (w : ℕ) : Type 0 where
    pub kind : kind_of w ≡ m.body
    pub sound : m.sound_body f w ≡ true

  -- the words of a place: a good head, and as many good words after it as it says
  pub record GoodWords (f : Floor) (h : ℕ) (ws : List ℕ) : Type 0 where
    pub kind : kind_of h ≡ m.head
    pub sound : m.sound_head h ≡ true
    pub each : AllByRecursion (GoodBody f) ws
    pub whole : length ws ≡ body_of h

  -- a place gives back the words that it was read from
  abbrev pub Exact : Type 0
  Exact = (f : Floor) (h : ℕ) (ws : List ℕ) → GoodWords f h ws → m.spell f (m.place_of f h ws) ≡ h ∷ ws
