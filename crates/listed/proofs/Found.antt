-- What the answers of a plan find in its list of places.
use Rattle.std.proofs.Common.{◌≡◌, ℕ, ◌<◌, Bool, true, false, ltb, List, map, length, get_or, Some, None, Option, Bor, sym, refl, ap, ◌∙◌}
use Rattle.std.proofs.lemmas.List.{get_or-map, length-map}
use Rattle.std.proofs.lemmas.Bool.{ltb-true}
use Rattle.std.specs.Slice.{IsItemAt}
use Rattle.std.specs.Option.{IsSomeAnd, MatchOption}
use Rattle.plan.specs.Hall.{Place, type_at, covers_at}
use Rattle.plan.proofs.Makes.{found_type, no_type, found_covers, no_covers}

module _ {S P : Type 0} (meaning : P → Place) (model : S → P) (xs ys : List S) (w h k : ℕ) (same : ys ≡ xs) where
  inside : (b : Bool) → b ≡ ltb k (length ys) → b ≡ ltb k (length (map model xs))
  inside b l = l ∙ ap (λ (zs : List S). ltb k (length zs)) same ∙ ap (ltb k) (sym (length-map xs model))

  entry : (p : S) → true ≡ ltb k (length ys) → p ≡ get_or ys k p → model p ≡ get_or (map model xs) k (model p)
  entry p l e =
      let at : p ≡ get_or xs k p = e ∙ ap (λ (zs : List S). get_or zs k p) same in
      let there : k < length xs = ltb-true _ _ (sym (l ∙ ap (λ (zs : List S). ltb k (length zs)) same)) in
      ap model at ∙ sym (get_or-map model xs k p (model p) there)

  pub type_found : (p : S) → true ≡ ltb k (length ys) → p ≡ get_or ys k p → Some (meaning (model p)).ty ≡ type_at (record { width = w; height = h; places = map meaning (map model xs) }) k
  type_found p l e = found_type meaning (map model xs) w h k (map model xs) (model p) refl (inside true l) (entry p l e)

  pub no_type_found : false ≡ ltb k (length ys) → None ≡ type_at (record { width = w; height = h; places = map meaning (map model xs) }) k
  no_type_found l = no_type meaning (map model xs) w h k (map model xs) refl (inside false l)

  pub covers_found : (p : S) (x y : ℕ) → true ≡ ltb k (length ys) → p ≡ get_or ys k p → x < w → y < h → (meaning (model p)).covers x y ≡ covers_at (record { width = w; height = h; places = map meaning (map model xs) }) k x y
  covers_found p x y l e i j = found_covers meaning (map model xs) w h k (map model xs) (model p) x y refl (inside true l) (entry p l e) i j

  pub no_covers_found : (x y : ℕ) → false ≡ ltb k (length ys) → x < w → y < h → false ≡ covers_at (record { width = w; height = h; places = map meaning (map model xs) }) k x y
  no_covers_found x y l i j = no_covers meaning (map model xs) w h k (map model xs) x y refl (inside false l) i j

  -- the answers, where o is what is found at k, and Q what the call at it gives
  pub type_asked : (Q : Bor S → ℕ → Type 0) (o : Option (Bor S)) (r : Option ℕ) → IsItemAt ys k o → MatchOption o (r ≡ None) (λ p. IsSomeAnd r (Q p)) → ((p : Bor S) (t : ℕ) → Q p t → t ≡ (meaning (model p.now)).ty) → r ≡ type_at (record { width = w; height = h; places = map meaning (map model xs) }) k
  type_asked Q (Some p) (Some t) at m q = ap Some (q p t m) ∙ type_found p.now at.0 at.1
  type_asked Q (Some p) None at m q = absurd m
  type_asked Q None r at m q = m ∙ no_type_found at.0

  pub covers_asked : (Q : Bor S → Type 0) (o : Option (Bor S)) (r : Bool) (x y : ℕ) → IsItemAt ys k o → MatchOption o (r ≡ false) Q → ((p : Bor S) → Q p → r ≡ (meaning (model p.now)).covers x y) → x < w → y < h → r ≡ covers_at (record { width = w; height = h; places = map meaning (map model xs) }) k x y
  covers_asked Q (Some p) r x y at m q i j = q p m ∙ covers_found p.now x y at.0 at.1 i j
  covers_asked Q None r x y at m q i j = m ∙ no_covers_found x y at.0 i j
