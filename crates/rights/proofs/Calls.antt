-- What an array holds that was made by calls of a closure that no call changes.
use Rattle.std.proofs.Common.{◌≡◌, ℕ, zero, suc, ◌+◌, ◌<◌, ◌≤◌, List, get_or, sym, subst, ⊎_elim, arith}
use Rattle.std.proofs.lemmas.Bool.{cases_eq}
use Rattle.std.specs.Array.{IsFromFnResult, IsFromFnResultFrom}
use denote.Param.Members.{Mut, Called}

module _ {F B : Type 0} (g : Mut F (ℕ × Unit {0}) B) (f : F) (ys : List B) (d : B) (Q : ℕ → B → Type 0) (call : (i : ℕ) (y : B) (q : F) → Called g f (i, tt) y q → (q ≡ f) × Q i y) where
  from : (n k i : ℕ) → IsFromFnResultFrom g f ys k n → k ≤ i → i < k + n → Q i (get_or ys i d)
  from zero k i r l u = absurd (omega arith)
  from (suc n) k i r l u =
      let here = call k r.1 r.0 r.3 in
      ⊎_elim
      (λ (same : i ≡ k). subst (λ j. Q j (get_or ys j d)) (sym same) (subst (Q k) (sym (r.2.1 d)) here.1))
      (λ (other : i ≡ k → ⊥). from n (k + 1) i (subst (λ (s : F). IsFromFnResultFrom g s ys (k + 1) n) here.0 r.4) (omega (arith, other)) (omega (arith, other)))
      (cases_eq i k)

  -- each element is what the call with its number gave
  pub each_call : (n : ℕ) → IsFromFnResult g f ys n → (i : ℕ) → i < n → Q i (get_or ys i d)
  each_call n r i l = from n 0 i r.each (omega arith) (omega arith)
