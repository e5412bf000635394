-- What holds of a list of records, and of the list with one more.
use Rattle.std.proofs.Common.{◌≡◌, ℕ, zero, suc, ◌≤◌, Bool, true, ltb, List, [], ◌∷◌, ◌++◌, length, ap, ◌∙◌, arith}
use Rattle.std.proofs.lemmas.List.{length_push}
use Rattle.std.proofs.lemmas.Bool.{cond-true}
use Rattle.std.specs.Prelude.{slice_get, slice_index_or}
use Rattle.std.specs.Option.{UnwrapsOrElse}
use Rattle.keyed.specs.Orders.{placed, follows}
use Rattle.policy.specs.Facts.{Below}

module _ {R : Type 0} where
  -- a record that fits is put after the others
  pub pushed : (most : ℕ) (xs ys : List R) (x y : R) → x ≡ y → ys ≡ placed most xs x → ltb (length xs) most ≡ true → ys ≡ xs ++ y ∷ []
  pushed most xs ys x y same e room = e ∙ cond-true _ _ _ room ∙ ap (λ z. xs ++ z ∷ []) same

  pub longer : (xs : List R) (x : R) → length xs ≤ length (xs ++ x ∷ [])
  longer xs x = omega (arith, length_push xs x)

  pub below_more : (f : R → ℕ) (n m : ℕ) (xs : List R) → n ≤ m → Below f n xs → Below f m xs
  below_more f n m xs le h k d l = let b = h k d l in omega arith

-- what follows in one order follows in the same order otherwise told
pub follows_same : {R K : Type 0} (less told : K → K → Bool) (key : R → K) (xs : List R) (x y : R) → less ≡ told → x ≡ y → follows less key xs (key x) ≡ follows told key xs (key y)
follows_same less told key xs x y order same = ap (λ l. follows l key xs (key x)) order ∙ ap (λ z. follows told key xs (key z)) same

-- a record by number, or the default one
pub record_or : {R : Type 0} (xs : List R) (k : ℕ) (IsDefault : R → Type 0) (r d : R) → (IsDefault r → r ≡ d) → UnwrapsOrElse (slice_get xs k) IsDefault r → r ≡ slice_index_or xs k d
record_or [] k IsDefault r d same h = same h
record_or (x ∷ xs) zero IsDefault r d same h = h
record_or (x ∷ xs) (suc k) IsDefault r d same h = record_or xs k IsDefault r d same h
