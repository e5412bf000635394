-- Arrays that are made entry by entry, and lists whose front is changed.
use Rattle.std.proofs.Common.{◌≡◌, ℕ, zero, suc, ◌+◌, ◌-◌, ◌<◌, ◌≤◌, List, ◌++◌, length, get_or, take, drop, sym, ap, subst, ◌∙◌, ⊎_elim, arith}
use Rattle.std.specs.Fn.{Called, Mut}
use Rattle.std.specs.Array.{IsFromFnResultFrom}
use Rattle.std.proofs.lemmas.Bool.{cases_eq}
use Rattle.std.proofs.lemmas.List.{get_or-take, get_or-append_right, get_or_append_left, get_or-drop}
use Rattle.survey.specs.declared.Seen.{Seen}
use Rattle.survey.specs.Entries.{nothing, entry, Changed, Noted}

-- what holds of each answer of a call, where calls leave f as it is, holds of each entry
pub made_each : {F B : Type 0} (g : Mut F (ℕ × Unit {0}) B) (f : F) (P : ℕ → B → Type 0) → ((k : ℕ) (y : B) (q : F) → Called g f (k, tt) y q → (q ≡ f) × P k y)
    → (ys : List B) (i n : ℕ) → IsFromFnResultFrom g f ys i n → (k : ℕ) (d : B) → i ≤ k → k < i + n → P k (get_or ys k d)
made_each g f P call ys i zero h k d l m = absurd (omega arith)
made_each {F} g f P call ys i (suc n) (q, y, at, called, rest) k d l m =
    let one = call i y q called in
    ⊎_elim
    (λ (same : k ≡ i). subst (λ (j : ℕ). P j (get_or ys j d)) (sym same) (subst (P i) (sym (at.1 d)) one.1))
    (λ (other : k ≡ i → ⊥). made_each g f P call ys (i + 1) n (subst (λ (p : F). IsFromFnResultFrom g p ys (i + 1) n) one.0 rest) k d (omega (arith, other)) (omega arith))
    (cases_eq k i)

-- the first n entries were changed apart from the rest
pub changed_front : (at n m : ℕ) (xs ys : List Seen) → n ≤ length xs → m ≡ n → length ys ≡ n → Changed at m (take n xs) ys → Changed at n xs (ys ++ drop n xs)
changed_front at n m xs ys fits e long h i = (
  (λ l. rw (get_or_append_left ys (drop n xs) nothing i (omega arith)) (subst (λ (s : Seen). Noted at i s (entry ys i)) (get_or-take n xs i nothing l) ((h i).0 (omega arith)))),
  (λ l. get_or-append_right ys (drop n xs) n i nothing long l ∙ get_or-drop n xs (i - n) nothing ∙ ap (entry xs) (omega arith)),
)
