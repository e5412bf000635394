-- Laws of the lowest number that passes.
use Rattle.std.proofs.Common.{◌≡◌, ℕ, zero, suc, ◌<◌, ◌≤◌, Bool, true, false, cond, ◌||◌, is_some, Some, None, Option, refl, ap, sym, arith}
use Rattle.std.specs.Option.{option_or}
use Rattle.sets.specs.Bounds.{some, when, lowest}
use Rattle.std.specs.Option.{MatchOption}
use Rattle.sets.proofs.Bounds.{first_here, first_nothing}

-- the first that passes
pub lowest_here : (p : ℕ → Bool) (i n : ℕ) → i < n → lowest i p ≡ None → p i ≡ true → lowest n p ≡ Some i
lowest_here p i n l e h = first_here (λ k. when (p k) k) i n i l e (ap (λ (b : Bool). when b i) h)

-- there is a lowest number where some number passes
pub lowest_some : (p : ℕ → Bool) (n : ℕ) → is_some (lowest n p) ≡ some n p
lowest_some p zero = refl
lowest_some p (suc n) = joins (lowest n p) (p n) (some n p) (lowest_some p n)
  where
    joins : (o : Option ℕ) (t u : Bool) → is_some o ≡ u → is_some (option_or o (cond t (Some n) None)) ≡ (t || u)
    joins None true u e = refl
    joins None false u e = e
    joins (Some k) true u e = refl
    joins (Some k) false u e = e

-- what a search over the range from 0 up to n gives
pub lowest_from : (p : ℕ → Bool) (n : ℕ) (r : Option ℕ) → MatchOption r ((k : ℕ) → 0 ≤ k → k < n → k < n → p k ≡ false) (λ i. (0 ≤ i) × (i < n) × (i < n → p i ≡ true) × ((k : ℕ) → 0 ≤ k → k < i → k < n → p k ≡ false)) → r ≡ lowest n p
lowest_from p n None h = sym (first_nothing (λ k. when (p k) k) n (λ k l. ap (λ (b : Bool). when b k) (h k (omega arith) l l)))
lowest_from p n (Some i) h =
    let below : (k : ℕ) → k < i → when (p k) k ≡ None = λ k l. ap (λ (b : Bool). when b k) (h.3 k (omega arith) l (omega (arith, h.1))) in
    sym (first_here (λ k. when (p k) k) i n i h.1 (first_nothing (λ k. when (p k) k) i below) (ap (λ (b : Bool). when b i) (h.2 h.1)))
