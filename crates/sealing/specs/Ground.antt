-- What calls and questions ask of a plan and the policy sealed over it.
use Rattle.std.specs.Prelude.{ℕ, Bool, ◌&&◌, length, Ok, Err, Option, Result}
use Rattle.sets.specs.Bounds.{lowest}
use Rattle.plan.specs.Hall.{Hall, type_at, covers_at, on_floor as is_on_floor}
use Rattle.plan.specs.Lying.{lies_in}
use Rattle.survey.specs.Kept.{is_type}
use Rattle.policy.specs.Contents.{Content}
use Rattle.checks.specs.declared.faults.SealFault.{SealFault}
use Rattle.rights.specs.Ancestors.{ancestor}
use Rattle.rights.specs.Extents.{extent_holds}

-- the answers that they use
pub record Ground : Type 0 where
  pub content : Content  -- the policy
  pub on_floor : ℕ → ℕ → Bool  -- (x, y) is a point of the floor
  pub placed_at : ℕ → ℕ → ℕ → Option ℕ  -- of type t at (x, y): the lowest-numbered place of the type that covers the point
  pub holds : ℕ → ℕ → Bool  -- of role r and place p: the place lies in the role's extent
  pub above : ℕ → ℕ → Bool  -- of role r and role a: a is an ancestor of r

-- place p is of type t and covers (x, y)
abbrev pub stands_at : Hall → ℕ → ℕ → ℕ → ℕ → Bool
stands_at h t x y p = is_type t (type_at h p) && covers_at h p x y

-- the lowest-numbered place of type t that covers (x, y)
abbrev pub place_at : Hall → ℕ → ℕ → ℕ → Option ℕ
place_at h t x y = lowest (length h.places) (stands_at h t x y)

-- what a hall and a policy say
abbrev pub ground_of : Hall → Content → Ground
ground_of h c = record {
  content = c;
  on_floor = is_on_floor h;
  placed_at = place_at h;
  holds = extent_holds (length h.places) (lies_in h) c;
  above = ancestor (lies_in h) c;
}

-- the ground after a sealing of the hall: a refused one leaves it as it was
abbrev pub ground_after : Ground → Hall → Result Content SealFault → Ground
ground_after old h (Ok c) = ground_of h c
ground_after old h (Err f) = old
