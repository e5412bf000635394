-- The lying of types, by places.
use Rattle.std.proofs.Common.{◌≡◌, ℕ, ◌<◌, ◌≤◌, Bool, true, cond, not, ◌&&◌, ◌||◌, length, get_or, Some, None, sym, ap, ◌∙◌, ⊎_elim, arith}
use Rattle.std.proofs.lemmas.Bool.{and_parts, and_from, lt-ltb, le-ltb, eqb-true, eq-eqb, cases_lt}
use Rattle.sets.proofs.Bounds.{decides_some, decides_every}
use Rattle.plan.specs.Hall.{Hall, nowhere, type_at}
use Rattle.plan.specs.Lying.{lies_in, of_type, lies_in_some}
use Rattle.survey.specs.Laws.{SomeMeans, TypesMean}
use Rattle.survey.proofs.Lying.{implies}

module _ (h : Hall) where
  -- a number in use has the type of its place
  pub type_in_use : (i : ℕ) → i < length h.places → type_at h i ≡ Some (get_or h.places i nowhere).ty
  type_in_use i l = ap (λ (b : Bool). cond b (Some (get_or h.places i nowhere).ty) None) (lt-ltb i (length h.places) l)

  -- a number not in use has none
  pub type_past : (i : ℕ) → length h.places ≤ i → type_at h i ≡ None
  type_past i l = ap (λ (b : Bool). cond b (Some (get_or h.places i nowhere).ty) None) (le-ltb i (length h.places) l)

  -- a number that has a type is in use
  pub in_use : (i t : ℕ) → type_at h i ≡ Some t → i < length h.places
  in_use i t e =
      ⊎_elim
      (λ (l : i < length h.places). l)
      (λ (l : length h.places ≤ i). absurd (let n : None ≡ Some t = sym (type_past i l) ∙ e in let z : ◌≡◌ {A = ℕ} 0 1 = cc in omega arith))
      (cases_lt i (length h.places))

  -- to be of a type, for a number in use, is to have it
  pub of_type_is : (i t : ℕ) → i < length h.places → of_type h t i ≡ true → type_at h i ≡ Some t
  of_type_is i t l e = type_in_use i l ∙ ap (λ (n : ℕ). Some n) (eqb-true (get_or h.places i nowhere).ty t e)

  pub type_is_of : (i t : ℕ) → type_at h i ≡ Some t → of_type h t i ≡ true
  type_is_of i t e =
      let same : Some (get_or h.places i nowhere).ty ≡ Some t = sym (type_in_use i (in_use i t e)) ∙ e in
      let own : (get_or h.places i nowhere).ty ≡ t = cc in
      eq-eqb (get_or h.places i nowhere).ty t own

pub some_means : SomeMeans
some_means h t i =
    let one = decides_some (λ j. of_type h t j && lies_in h i j) (length h.places) in (
      (λ e. let at = one.0 e in let both = and_parts (of_type h t at.0) (lies_in h i at.0) at.2 in (at.0, of_type_is h at.0 t at.1 both.0, both.1)),
      (λ p. one.1 (p.0, in_use h p.0 t p.1, and_from (of_type h t p.0) (lies_in h i p.0) (type_is_of h p.0 t p.1) p.2)),
    )

pub types_mean : TypesMean
types_mean h s t =
    let all = decides_every (λ i. not (of_type h s i) || lies_in_some h t i) (length h.places) in (
      (λ e i is. (some_means h t i).0 ((implies (of_type h s i) (lies_in_some h t i)).0 (all.0 e i (in_use h i s is)) (type_is_of h i s is))),
      (λ f. all.1 (λ i l. (implies (of_type h s i) (lies_in_some h t i)).1 (λ own. (some_means h t i).1 (f i (of_type_is h i s l own))))),
    )
