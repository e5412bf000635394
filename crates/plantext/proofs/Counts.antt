-- How many parts a text has, and how long they are.
use Rattle.std.proofs.Common.{ℕ, ◌+◌, ◌≤◌, Bool, true, false, cond, eqb, List, [], ◌∷◌, length, sum_by, arith}
use Rattle.std.proofs.lemmas.List.Sums.{sum_by-cons}
use Rattle.plantext.specs.Parts.{before, with_first, parts_of, filled, words_of}

few_joined : (x n : ℕ) (ps : List (List ℕ)) → length ps ≤ n → length (with_first x ps) ≤ n + 1
few_joined x n [] h = omega arith
few_joined x n (p ∷ ps) h = omega arith

few_by : (t : Bool) (x n : ℕ) (ps : List (List ℕ)) → length ps ≤ n → length (cond t ([] ∷ ps) (with_first x ps)) ≤ n + 1
few_by true x n ps h = omega arith
few_by false x n ps h = few_joined x n ps h

-- there are no more parts than bytes
pub few_parts : (b : ℕ) (xs : List ℕ) → length (parts_of b xs) ≤ length xs
few_parts b [] = omega arith
few_parts b (x ∷ xs) = let h = few_by (eqb x b) x (length xs) (parts_of b xs) (few_parts b xs) in omega arith

few_filled : (ps : List (List ℕ)) → length (filled ps) ≤ length ps
few_filled [] = omega arith
few_filled ([] ∷ ps) = let h = few_filled ps in omega arith
few_filled ((x ∷ xs) ∷ ps) = let h = few_filled ps in omega arith

pub few_words : (line : List ℕ) → length (words_of line) ≤ length line
few_words line =
    let h = few_filled (parts_of 32 line) in
    let k = few_parts 32 line in
    omega arith

-- the parts together are no longer than the whole
long_joined : (x n : ℕ) (ps : List (List ℕ)) → sum_by length ps ≤ n → sum_by length (with_first x ps) ≤ n + 1
long_joined x n [] h = omega arith
long_joined x n (p ∷ ps) h = omega (arith, sum_by-cons length p ps, sum_by-cons length (x ∷ p) ps)

long_by : (t : Bool) (x n : ℕ) (ps : List (List ℕ)) → sum_by length ps ≤ n → sum_by length (cond t ([] ∷ ps) (with_first x ps)) ≤ n + 1
long_by true x n ps h = omega (arith, sum_by-cons length [] ps)
long_by false x n ps h = long_joined x n ps h

pub short_parts : (b : ℕ) (xs : List ℕ) → sum_by length (parts_of b xs) ≤ length xs
short_parts b [] = omega arith
short_parts b (x ∷ xs) = let h = long_by (eqb x b) x (length xs) (parts_of b xs) (short_parts b xs) in omega arith

-- what stands before a byte is no longer than the whole
cut_by : (t : Bool) (x n : ℕ) (ys : List ℕ) → length ys ≤ n → length (cond t [] (x ∷ ys)) ≤ n + 1
cut_by true x n ys h = omega arith
cut_by false x n ys h = omega arith

pub short_before : (b : ℕ) (xs : List ℕ) → length (before b xs) ≤ length xs
short_before b [] = omega arith
short_before b (x ∷ xs) = let h = cut_by (eqb x b) x (length xs) (before b xs) (short_before b xs) in omega arith
