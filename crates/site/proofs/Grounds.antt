-- Two grounds over one hall with the same parts are the same.
use Rattle.std.proofs.Common.{◌≡◌, ℕ, Bool}
use Rattle.plan.specs.Hall.{Hall, on_floor as is_on_floor}
use Rattle.policy.specs.Contents.{Content}
use Rattle.sealing.specs.Ground.{Ground, place_at}

abbrev of_parts : Hall → Content → (ℕ → ℕ → Bool) → (ℕ → ℕ → Bool) → Ground
of_parts h c holds above = record { content = c; on_floor = is_on_floor h; placed_at = place_at h; holds = holds; above = above }

pub same_ground : (h : Hall) (c d : Content) (f f' g g' : ℕ → ℕ → Bool) → c ≡ d → ((r p : ℕ) → f r p ≡ f' r p) → ((r a : ℕ) → g r a ≡ g' r a) → of_parts h c f g ≡ of_parts h d f' g'
same_ground h c d f f' g g' e holds above = λ i. of_parts h (e i) (λ r p. holds r p i) (λ r a. above r a i)
