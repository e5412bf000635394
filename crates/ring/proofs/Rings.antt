-- One edge of a ring after another: what a turn of the loop does.
use Rattle.std.proofs.Common.{◌≡◌, ℕ, ◌+◌, ◌%◌, ◌<◌, ◌≤◌, true, false, eqb, List, [], ◌∷◌, length, get_or, drop, sym, refl, zero-add, add-one, arith, drop-cons}
use Rattle.std.proofs.lemmas.List.{drop_all}
use Rattle.point.specs.declared.Point.{Point}
use Rattle.ring.specs.Ring.{on_edge, crossed, on_some, crossings, last_of, covers}

module _ (a : Point) (cs : List Point) (i x y : ℕ) (h : i < length cs) where
  pub on_skip : on_edge a (get_or cs i (record { x = 0; y = 0 })) x y ≡ false → on_some a (drop i cs) x y ≡ on_some (get_or cs i (record { x = 0; y = 0 })) (drop (i + 1) cs) x y
  on_skip e = rw (add-one, drop-cons cs i (record { x = 0; y = 0 }), e)

  pub on_here : on_edge a (get_or cs i (record { x = 0; y = 0 })) x y ≡ true → on_some a (drop i cs) x y ≡ true
  on_here e = rw (drop-cons cs i (record { x = 0; y = 0 }), e)

  pub cross_yes : crossed a (get_or cs i (record { x = 0; y = 0 })) x y ≡ true → crossings a (drop i cs) x y ≡ 1 + crossings (get_or cs i (record { x = 0; y = 0 })) (drop (i + 1) cs) x y
  cross_yes e = rw (add-one, drop-cons cs i (record { x = 0; y = 0 }), e)

  pub cross_no : crossed a (get_or cs i (record { x = 0; y = 0 })) x y ≡ false → crossings a (drop i cs) x y ≡ crossings (get_or cs i (record { x = 0; y = 0 })) (drop (i + 1) cs) x y
  cross_no e = rw (add-one, drop-cons cs i (record { x = 0; y = 0 }), e, zero-add)

pub covers_on : (cs : List Point) (l : Point) (x y : ℕ) → l ≡ last_of cs → on_some l cs x y ≡ true → true ≡ covers cs x y
covers_on cs l x y e o = let p = sym e in rw (p, o)

pub covers_off : (cs : List Point) (l : Point) (x y : ℕ) → l ≡ last_of cs → on_some l cs x y ≡ false → eqb (crossings l cs x y % 2) 1 ≡ covers cs x y
covers_off cs l x y e o = let p = sym e in rw (p, o)

pub covers_none : (cs : List Point) (x y : ℕ) → length cs ≡ 0 → false ≡ covers cs x y
covers_none [] x y e = refl
covers_none (a ∷ cs) x y e = absurd (omega arith)

pub on_end : (a : Point) (cs : List Point) (i x y : ℕ) → length cs ≤ i → on_some a (drop i cs) x y ≡ false
on_end a cs i x y h = rw drop_all

pub cross_end : (a : Point) (cs : List Point) (i x y : ℕ) → length cs ≤ i → crossings a (drop i cs) x y ≡ 0
cross_end a cs i x y h = rw drop_all
