-- What a plan means: a floor, and a list of places.
use Rattle.std.specs.Prelude.{ℕ, Bool, false, cond, ◌&&◌, List, [], length, Some, None, Option, nat_lt, slice_index_or}

-- a floor has at most so many points each way
abbrev pub most_side : ℕ
most_side = 256

-- a plan has at most so many places
abbrev pub most_places : ℕ
most_places = 64

-- a place: the number of its type, and which points it covers
pub record Place : Type 0 where
  pub ty : ℕ
  pub covers : ℕ → ℕ → Bool

-- a floor of width by height points, from (0, 0) on, and its places, numbered from 0 on
pub record Hall : Type 0 where
  pub width : ℕ
  pub height : ℕ
  pub places : List Place

-- covers no point
abbrev pub nowhere : Place
nowhere = record { ty = 0; covers = λ _ _. false }

-- a floor without places
abbrev pub empty_hall : ℕ → ℕ → Hall
empty_hall w h = record { width = w; height = h; places = [] }

-- (x, y) is a point of the floor
abbrev pub on_floor : Hall → ℕ → ℕ → Bool
on_floor h x y = nat_lt x h.width && nat_lt y h.height

-- the type of place k, if that number is in use
abbrev pub type_at : Hall → ℕ → Option ℕ
type_at h k = cond (nat_lt k (length h.places)) (Some (slice_index_or h.places k nowhere).ty) None

-- place k covers (x, y): no place covers a point off the floor, and a number not in use covers none
abbrev pub covers_at : Hall → ℕ → ℕ → ℕ → Bool
covers_at h k x y = on_floor h x y && (slice_index_or h.places k nowhere).covers x y
