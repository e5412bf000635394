-- Lying, sharing and having a point, by the points.
use Rattle.std.proofs.Common.{◌≡◌, ℕ, ◌<◌, ◌≤◌, Bool, true, false, not, ◌&&◌, ◌||◌, ltb, length, get_or, Decides, sym, refl, ◌∙◌, ⊎_elim}
use Rattle.std.proofs.lemmas.Bool.{and_parts, and_from, ltb-true, cases_Bool, cases_lt, false≢true, true≢false}
use Rattle.sets.specs.Bounds.{every, some}
use Rattle.sets.proofs.Bounds.{decides_some, decides_every, some_here, some_same}
use Rattle.plan.specs.Hall.{Hall, nowhere, on_floor, covers_at}
use Rattle.plan.specs.Lying.{has_point, lies_in, shares}
use Rattle.plan.proofs.Rows.{covers_past}
use Rattle.survey.specs.Laws.{LiesMeans, LiesReflexive, LiesTransitive, SharesMeans, SharesSymmetric, PointMeans}

pub implies : (a b : Bool) → Decides (not a || b) (a ≡ true → b ≡ true)
implies true b = ((λ e _. e), (λ f. f refl))
implies false b = ((λ _ e. absurd (false≢true e)), (λ _. refl))

-- a point that is covered is on the floor
pub on_floor_seen : (h : Hall) (i x y : ℕ) → covers_at h i x y ≡ true → (x < h.width) × (y < h.height)
on_floor_seen h i x y e =
    let floor = and_parts (on_floor h x y) ((get_or h.places i nowhere).covers x y) e in
    let sides = and_parts (ltb x h.width) (ltb y h.height) floor.0 in
    (ltb-true _ _ sides.0, ltb-true _ _ sides.1)

-- a test of every point of a floor of w by n points
every_point_means : (w n : ℕ) (q : ℕ → ℕ → Bool) → Decides (every n (λ y. every w (λ x. q x y))) ((x y : ℕ) → x < w → y < n → q x y ≡ true)
every_point_means w n q = (
  (λ e x y l m. (decides_every (λ x. q x y) w).0 ((decides_every (λ y. every w (λ x. q x y)) n).0 e y m) x l),
  (λ f. (decides_every (λ y. every w (λ x. q x y)) n).1 (λ y m. (decides_every (λ x. q x y) w).1 (λ x l. f x y l m))),
)

-- and of some point
some_point_means : (w n : ℕ) (q : ℕ → ℕ → Bool) → Decides (some n (λ y. some w (λ x. q x y))) ((x : ℕ) × (y : ℕ) × (x < w) × (y < n) × (q x y ≡ true))
some_point_means w n q = (
  (λ e.
      let row = (decides_some (λ y. some w (λ x. q x y)) n).0 e in
      let point = (decides_some (λ x. q x row.0) w).0 row.2 in
      (point.0, row.0, point.1, row.1, point.2)),
  (λ p. some_here (λ y. some w (λ x. q x y)) p.1 n p.3 (some_here (λ x. q x p.1) p.0 w p.2 p.4)),
)

pub lies_means : LiesMeans
lies_means h i j =
    let all = every_point_means h.width h.height (λ x y. not (covers_at h i x y) || covers_at h j x y) in (
      (λ e x y c. let f = on_floor_seen h i x y c in (implies (covers_at h i x y) (covers_at h j x y)).0 (all.0 e x y f.0 f.1) c),
      (λ f. all.1 (λ x y l m. (implies (covers_at h i x y) (covers_at h j x y)).1 (f x y))),
    )

pub lies_itself : LiesReflexive
lies_itself h i = (lies_means h i i).1 (λ x y c. c)

pub lies_on : LiesTransitive
lies_on h i j k e f = (lies_means h i k).1 (λ x y c. (lies_means h j k).0 f x y ((lies_means h i j).0 e x y c))

pub shares_means : SharesMeans
shares_means h i j =
    let one = some_point_means h.width h.height (λ x y. covers_at h i x y && covers_at h j x y) in (
      (λ e. let p = one.0 e in let both = and_parts (covers_at h i p.0 p.1) (covers_at h j p.0 p.1) p.4 in (p.0, p.1, both.0, both.1)),
      (λ p. let f = on_floor_seen h i p.0 p.1 p.2 in one.1 (p.0, p.1, f.0, f.1, and_from _ _ p.2 p.3)),
    )

pub point_means : PointMeans
point_means h i =
    let one = some_point_means h.width h.height (λ x y. covers_at h i x y) in (
      (λ e. let p = one.0 e in (p.0, p.1, p.4)),
      (λ p. let f = on_floor_seen h i p.0 p.1 p.2 in one.1 (p.0, p.1, f.0, f.1, p.2)),
    )

turned : (a b : Bool) → (a && b) ≡ (b && a)
turned true true = refl
turned true false = refl
turned false true = refl
turned false false = refl

pub shares_turned : SharesSymmetric
shares_turned h i j =
    some_same h.height (λ y. some h.width (λ x. covers_at h i x y && covers_at h j x y)) (λ y. some h.width (λ x. covers_at h j x y && covers_at h i x y))
    (λ y l. some_same h.width (λ x. covers_at h i x y && covers_at h j x y) (λ x. covers_at h j x y && covers_at h i x y) (λ x m. turned (covers_at h i x y) (covers_at h j x y)))

twice : (b : Bool) → (b && b) ≡ b
twice true = refl
twice false = refl

-- a place covers some point exactly when it shares one with itself
pub shares_itself : (h : Hall) (i : ℕ) → shares h i i ≡ has_point h i
shares_itself h i =
    some_same h.height (λ y. some h.width (λ x. covers_at h i x y && covers_at h i x y)) (λ y. some h.width (λ x. covers_at h i x y))
    (λ y l. some_same h.width (λ x. covers_at h i x y && covers_at h i x y) (λ x. covers_at h i x y) (λ x m. twice (covers_at h i x y)))

-- a place without a point lies in every place
pub empty_lies : (h : Hall) (i j : ℕ) → has_point h i ≡ false → lies_in h i j ≡ true
empty_lies h i j e = (lies_means h i j).1 (λ x y c. absurd (true≢false (sym ((point_means h i).1 (x, y, c)) ∙ e)))

-- a place with a point is in use
pub point_in_use : (h : Hall) (i : ℕ) → has_point h i ≡ true → i < length h.places
point_in_use h i e =
    ⊎_elim
    (λ (l : i < length h.places). l)
    (λ (l : length h.places ≤ i). let p = (point_means h i).0 e in absurd (true≢false (sym p.2 ∙ covers_past h p.0 p.1 i l)))
    (cases_lt i (length h.places))

-- and it lies in no number that is not in use
pub lies_in_use : (h : Hall) (i j : ℕ) → has_point h i ≡ true → length h.places ≤ j → lies_in h i j ≡ false
lies_in_use h i j e l =
    ⊎_elim
    (λ (in-it : lies_in h i j ≡ true). let p = (point_means h i).0 e in absurd (true≢false (sym ((lies_means h i j).0 in-it p.0 p.1 p.2) ∙ covers_past h p.0 p.1 j l)))
    (λ (out : lies_in h i j ≡ false). out)
    (cases_Bool (lies_in h i j))
