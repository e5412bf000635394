-- When a place lies in another, when two share a point, and when a type lies in another.
use Rattle.std.specs.Prelude.{ℕ, Bool, not, ◌&&◌, ◌||◌, length, ◌==◌, slice_index_or}
use Rattle.sets.specs.Bounds.{every, some}
use Rattle.plan.specs.Hall.{Hall, nowhere, covers_at}

-- place i covers some point
abbrev pub has_point : Hall → ℕ → Bool
has_point h i = some h.height (λ y. some h.width (λ x. covers_at h i x y))

-- every point of place i belongs to place j
abbrev pub lies_in : Hall → ℕ → ℕ → Bool
lies_in h i j = every h.height (λ y. every h.width (λ x. not (covers_at h i x y) || covers_at h j x y))

-- some point belongs to both places
abbrev pub shares : Hall → ℕ → ℕ → Bool
shares h i j = some h.height (λ y. some h.width (λ x. covers_at h i x y && covers_at h j x y))

-- place i, a number in use, is of type t
abbrev pub of_type : Hall → ℕ → ℕ → Bool
of_type h t i = (slice_index_or h.places i nowhere).ty == t

-- place i lies in some place of type t
abbrev pub lies_in_some : Hall → ℕ → ℕ → Bool
lies_in_some h t i = some (length h.places) (λ j. of_type h t j && lies_in h i j)

-- every place of type s lies in some place of type t
abbrev pub type_lies : Hall → ℕ → ℕ → Bool
type_lies h s t = every (length h.places) (λ i. not (of_type h s i) || lies_in_some h t i)
