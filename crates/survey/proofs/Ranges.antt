-- What `any` and `all` answer over the numbers below n.
use Rattle.std.proofs.Common.{◌≡◌, ℕ, ◌<◌, Bool, true, false, length, get_or, sym, ◌∙◌, subst, arith}
use Rattle.std.specs.List.{range_with_len, AllWithin, HoldsAt}
use Rattle.std.specs.Bool.{MatchBool}
use Rattle.std.proofs.lemmas.List.FromFn.{length-range_with_len, get_or-range_with_len}
use Rattle.sets.specs.Bounds.{every, some}
use Rattle.sets.proofs.Bounds.{decides_every, some_here, some_none, every_not}

module _ (p : ℕ → Bool) (n : ℕ) where
  low : (k : ℕ) → k < length (range_with_len 0 n) → k < n
  low k l = omega (arith, length-range_with_len 0 n)

  at : (b : Bool) (k : ℕ) → k < n → p (get_or (range_with_len 0 n) k 0) ≡ b → p k ≡ b
  at b k l = let same : get_or (range_with_len 0 n) k 0 ≡ k = get_or-range_with_len 0 n k 0 l ∙ omega arith in subst (λ (j : ℕ). p j ≡ b) same

  pub some_from_any : (r : Bool) → MatchBool r ((k : ℕ) × (k < length (range_with_len 0 n)) × HoldsAt (λ k. p k ≡ true) (range_with_len 0 n) k) (AllWithin (λ k. p k ≡ false) (range_with_len 0 n) 0 (length (range_with_len 0 n))) → r ≡ some n p
  some_from_any true h = let l = low h.0 h.1 in sym (some_here p h.0 n l (at true h.0 l (h.2 0)))
  some_from_any false h = sym (some_none n p (λ k l. at false k l (h k 0 (omega arith) (omega (arith, length-range_with_len 0 n)))))

  pub every_from_all : (r : Bool) → MatchBool r (AllWithin (λ k. p k ≡ true) (range_with_len 0 n) 0 (length (range_with_len 0 n))) ((k : ℕ) × (k < length (range_with_len 0 n)) × HoldsAt (λ k. p k ≡ false) (range_with_len 0 n) k) → r ≡ every n p
  every_from_all true h = sym ((decides_every p n).1 (λ k l. at true k l (h k 0 (omega arith) (omega (arith, length-range_with_len 0 n)))))
  every_from_all false h = let l = low h.0 h.1 in sym (every_not p h.0 n l (at false h.0 l (h.2 0)))
