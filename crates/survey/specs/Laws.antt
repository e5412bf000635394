-- What lying in a place, sharing a point and having a point say of the points, and what the lying of types says of places.
use Rattle.std.specs.Prelude.{◌≡◌, ℕ, true, Some, Decides}
use Rattle.plan.specs.Hall.{Hall, type_at, covers_at}
use Rattle.plan.specs.Lying.{has_point, lies_in, shares, lies_in_some, type_lies}

-- a place lies in another exactly when the other covers each point that it covers
abbrev pub LiesMeans : Type 0
LiesMeans = (h : Hall) (i j : ℕ) → Decides (lies_in h i j) ((x y : ℕ) → covers_at h i x y ≡ true → covers_at h j x y ≡ true)

-- a place lies in itself
abbrev pub LiesReflexive : Type 0
LiesReflexive = (h : Hall) (i : ℕ) → lies_in h i i ≡ true

-- a place lies in what holds a place that it lies in
abbrev pub LiesTransitive : Type 0
LiesTransitive = (h : Hall) (i j k : ℕ) → lies_in h i j ≡ true → lies_in h j k ≡ true → lies_in h i k ≡ true

-- two places share a point exactly when there is a point that both cover
abbrev pub SharesMeans : Type 0
SharesMeans = (h : Hall) (i j : ℕ) → Decides (shares h i j) ((x : ℕ) × (y : ℕ) × (covers_at h i x y ≡ true) × (covers_at h j x y ≡ true))

-- a place has a point exactly when there is a point that it covers
abbrev pub PointMeans : Type 0
PointMeans = (h : Hall) (i : ℕ) → Decides (has_point h i) ((x : ℕ) × (y : ℕ) × (covers_at h i x y ≡ true))

-- sharing a point goes both ways
abbrev pub SharesSymmetric : Type 0
SharesSymmetric = (h : Hall) (i j : ℕ) → shares h i j ≡ shares h j i

-- a place lies in some place of a type exactly when there is such a place
abbrev pub SomeMeans : Type 0
SomeMeans = (h : Hall) (t i : ℕ) → Decides (lies_in_some h t i) ((j : ℕ) × (type_at h j ≡ Some t) × (lies_in h i j ≡ true))

-- a type lies in another exactly when for each place of the one there is a place of the other in which it lies
abbrev pub TypesMean : Type 0
TypesMean = (h : Hall) (s t : ℕ) → Decides (type_lies h s t) ((i : ℕ) → type_at h i ≡ Some s → (j : ℕ) × (type_at h j ≡ Some t) × (lies_in h i j ≡ true))
