-- What is kept of a number, and how one point of the floor changes it.
use Rattle.std.specs.Prelude.{◌≡◌, ℕ, ◌^◌, ◌<◌, ◌≤◌, Bool, false, not, ◌&&◌, ◌||◌, List, None, Option, nat_lt, slice_index_or}
use Rattle.sets.specs.Member.{member, word_of}
use Rattle.sets.specs.declared.Set64.{Set64}
use Rattle.plan.specs.Hall.{most_places}
use Rattle.survey.specs.declared.Seen.{Seen}

-- of a number past the entries nothing is kept
abbrev pub nothing : Seen
nothing = record { ty = None; lies = record { bits = 0 }; shares = record { bits = 0 } }

-- what is kept of number i
abbrev pub entry : List Seen → ℕ → Seen
entry places i = slice_index_or places i nothing

-- both sets are words of 64 bits
abbrev pub Whole : Seen → Type 0
Whole s = (s.lies.bits < 2 ^ 64) × (s.shares.bits < 2 ^ 64)

-- the set of the numbers below 64 that pass
abbrev pub set_of : (ℕ → Bool) → Set64
set_of p = record { bits = word_of most_places p }

-- i still lies in j, once a point is seen that the places of the word `at` cover
abbrev pub still_lies : ℕ → ℕ → ℕ → Bool → Bool
still_lies at i j before = (not (member at i) || member at j) && before

-- i and j now share a point, once a point is seen that the places of the word `at` cover
abbrev pub now_shares : ℕ → ℕ → ℕ → Bool → Bool
now_shares at i j before = (member at i && member at j) || before

-- s is kept of a number of the type of which no point was seen
pub record Unseen (own : Option ℕ) (s : Seen) : Type 0 where
  pub ty : s.ty ≡ own
  pub lies : (j : ℕ) → member s.lies.bits j ≡ nat_lt j most_places
  pub shares : (j : ℕ) → member s.shares.bits j ≡ false
  pub whole : Whole s

-- what was kept of number i as s is kept as t, once a point is seen that the places of the word `at` cover
pub record Noted (at i : ℕ) (s t : Seen) : Type 0 where
  pub ty : t.ty ≡ s.ty
  pub lies : (j : ℕ) → member t.lies.bits j ≡ still_lies at i j (member s.lies.bits j)
  pub shares : (j : ℕ) → member t.shares.bits j ≡ now_shares at i j (member s.shares.bits j)
  pub whole : Whole s → Whole t

-- the entries of xs below k were noted so into those of ys, and those from k on were not changed
abbrev pub Changed : ℕ → ℕ → List Seen → List Seen → Type 0
Changed at k xs ys = (i : ℕ) → (i < k → Noted at i (entry xs i) (entry ys i)) × (k ≤ i → entry ys i ≡ entry xs i)
