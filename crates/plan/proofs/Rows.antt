-- What a hall covers past its places, off its floor and on it.
use Rattle.std.proofs.Common.{◌≡◌, ℕ, ◌<◌, ◌≤◌, false, ltb, ◌⊎◌, length, get_or, inl, inr}
use Rattle.std.proofs.lemmas.List.{get_or_past}
use Rattle.std.proofs.lemmas.Bool.{lt-ltb, le-ltb, and_left, and_right}
use Rattle.plan.specs.Hall.{Hall, nowhere, on_floor, covers_at}

-- a number that is not in use covers nothing
pub covers_past : (h : Hall) (x y j : ℕ) → length h.places ≤ j → covers_at h j x y ≡ false
covers_past h x y j l = let p = get_or_past h.places j nowhere l in and_right (on_floor h x y) _ (rw p)

-- off the floor nothing is covered
pub covers_off : (h : Hall) (k x y : ℕ) → (h.width ≤ x) ⊎ (h.height ≤ y) → covers_at h k x y ≡ false
covers_off h k x y (inl l) = rw (le-ltb x h.width l)
covers_off h k x y (inr l) = and_left (on_floor h x y) _ (and_right (ltb x h.width) _ (le-ltb y h.height l))

-- on the floor a place covers what its own test says
pub covers_on : (h : Hall) (k x y : ℕ) → x < h.width → y < h.height → covers_at h k x y ≡ (get_or h.places k nowhere).covers x y
covers_on h k x y l m = rw (lt-ltb x h.width l, lt-ltb y h.height m)
