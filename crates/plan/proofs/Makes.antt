-- What a make of plan shows of its answers: its places are `map f xs`, of what its list xs holds, and an answer looks entry k up in ys, which is xs.
use Rattle.std.proofs.Common.{◌≡◌, ℕ, ◌<◌, ◌≤◌, true, false, ltb, List, map, length, get_or, Some, None, sym, ap, ◌∙◌, subst}
use Rattle.std.proofs.lemmas.List.{get_or-map, length-map, get_or_past}
use Rattle.std.proofs.lemmas.Bool.{ltb-true, ltb-false, lt-ltb}
use Rattle.plan.specs.Hall.{Place, nowhere, type_at, covers_at}

module _ {X : Type 0} (f : X → Place) (xs : List X) (w h : ℕ) (k : ℕ) where
  pub found_place : (p : X) → k < length xs → p ≡ get_or xs k p → get_or (map f xs) k nowhere ≡ f p
  found_place p l e = get_or-map f xs k p nowhere l ∙ ap f (sym e)

  pub no_place : length xs ≤ k → get_or (map f xs) k nowhere ≡ nowhere
  no_place l = let m : length (map f xs) ≤ k = rw length-map l in get_or_past (map f xs) k nowhere m

  pub found_type : (ys : List X) (p : X) → ys ≡ xs → true ≡ ltb k (length ys) → p ≡ get_or ys k p → Some (f p).ty ≡ type_at (record { width = w; height = h; places = map f xs }) k
  found_type ys p same l e =
      let P : List X → Type 0 = λ zs. (true ≡ ltb k (length zs)) × (p ≡ get_or zs k p) in
      let q = subst P same (l, e) in
      let b = sym q.0 in
      rw (length-map, b, found_place p (ltb-true _ _ b) q.1)

  pub no_type : (ys : List X) → ys ≡ xs → false ≡ ltb k (length ys) → None ≡ type_at (record { width = w; height = h; places = map f xs }) k
  no_type ys same l =
      let b : ltb k (length xs) ≡ false = ap (λ (zs : List X). ltb k (length zs)) (sym same) ∙ sym l in
      rw (length-map, b)

  pub found_covers : (ys : List X) (p : X) (x y : ℕ) → ys ≡ xs → true ≡ ltb k (length ys) → p ≡ get_or ys k p → x < w → y < h → (f p).covers x y ≡ covers_at (record { width = w; height = h; places = map f xs }) k x y
  found_covers ys p x y same l e i j =
      let P : List X → Type 0 = λ zs. (true ≡ ltb k (length zs)) × (p ≡ get_or zs k p) in
      let q = subst P same (l, e) in
      rw (lt-ltb x w i, lt-ltb y h j, found_place p (ltb-true _ _ (sym q.0)) q.1)

  pub no_covers : (ys : List X) (x y : ℕ) → ys ≡ xs → false ≡ ltb k (length ys) → x < w → y < h → false ≡ covers_at (record { width = w; height = h; places = map f xs }) k x y
  no_covers ys x y same l i j =
      let b : ltb k (length xs) ≡ false = ap (λ (zs : List X). ltb k (length zs)) (sym same) ∙ sym l in
      rw (lt-ltb x w i, lt-ltb y h j, no_place (ltb-false _ _ b))
