-- Rising keys, and the search by key, over any record type and any order of its keys.
use Rattle.std.specs.Prelude.{◌≡◌, ℕ, ◌+◌, Bool, true, false, cond, not, ◌&&◌, ◌||◌, List, [], ◌∷◌, ◌++◌, length, Some, None, Option, nat_lt}
use Rattle.std.specs.declared.cmp.Ordering.{Ordering}
use Rattle.std.specs.Ordering.{is_lt}

-- whether one key is below another
abbrev pub below : {K : Type 0} → (K → K → Ordering) → K → K → Bool
below cmp a b = is_lt (cmp a b)

-- no key is below itself
abbrev pub Irreflexive : {K : Type 0} → (K → K → Bool) → Type 0
Irreflexive {K} less = (a : K) → less a a ≡ false

-- what is below a lower key is below the higher one
abbrev pub Transitive : {K : Type 0} → (K → K → Bool) → Type 0
Transitive {K} less = (a b c : K) → less a b ≡ true → less b c ≡ true → less a c ≡ true

-- of two keys one is below the other, or they are the same
abbrev pub Total : {K : Type 0} → (K → K → Bool) → Type 0
Total {K} less = (a b : K) → less a b ≡ false → less b a ≡ false → a ≡ b

-- each key is above the one before
abbrev pub rising : {R K : Type 0} → (K → K → Bool) → (R → K) → List R → Bool
rising less key [] = true
rising less key (x ∷ []) = true
rising less key (x ∷ y ∷ ys) = less (key x) (key y) && rising less key (y ∷ ys)

-- a record with the key k may follow these: the last key is below it
abbrev pub follows : {R K : Type 0} → (K → K → Bool) → (R → K) → List R → K → Bool
follows less key [] k = true
follows less key (x ∷ []) k = less (key x) k
follows less key (x ∷ y ∷ ys) k = follows less key (y ∷ ys) k

-- a record is put after the others if it is one of the first `most`
abbrev pub placed : {R : Type 0} → ℕ → List R → R → List R
placed most xs x = cond (nat_lt (length xs) most) (xs ++ x ∷ []) xs

-- the same, if its key may also follow
abbrev pub placed_rising : {R K : Type 0} → (K → K → Bool) → (R → K) → ℕ → List R → R → List R
placed_rising less key most xs x = cond (follows less key xs (key x)) (placed most xs x) xs

-- two keys are the same: neither is below the other
abbrev pub alike : {K : Type 0} → (K → K → Bool) → K → K → Bool
alike less a b = not (less a b) && not (less b a)

-- the first place with the key k, where the places are counted from i
abbrev pub find_from : {R K : Type 0} → (K → K → Bool) → (R → K) → K → ℕ → List R → Option ℕ
find_from less key k i [] = None
find_from less key k i (x ∷ xs) = cond (alike less (key x) k) (Some i) (find_from less key k (i + 1) xs)

-- the first place with the key k
abbrev pub find_of : {R K : Type 0} → (K → K → Bool) → (R → K) → K → List R → Option ℕ
find_of less key k xs = find_from less key k 0 xs

-- some record has the key k
abbrev pub has : {R K : Type 0} → (K → K → Bool) → (R → K) → K → List R → Bool
has less key k [] = false
has less key k (x ∷ xs) = alike less (key x) k || has less key k xs
