-- What holds of a policy that was sealed, in the words of places and roles.
use Rattle.std.specs.Prelude.{◌≡◌, ℕ, ◌<◌, ◌≤◌, true, List, length, Some, Ok}
use Rattle.plan.specs.Hall.{Hall, type_at}
use Rattle.plan.specs.Lying.{has_point, lies_in, shares}
use Rattle.policy.specs.Contents.{Content, schema_at, role_at}
use Rattle.checks.specs.Faults.{schema_of_role, child_of, parent_of}
use Rattle.rights.specs.Ancestors.{ancestor}
use Rattle.sealing.specs.Outcome.{sealing}
use Rattle.sealing.specs.Ground.{ground_of}
use Rattle.sealing.specs.Located.{enabled_at}

-- every place of type t lies in some place of type u
abbrev pub TypeLies : Hall → ℕ → ℕ → Type 0
TypeLies h t u = (p : ℕ) → type_at h p ≡ Some t → (q : ℕ) × (type_at h q ≡ Some u) × (lies_in h p q ≡ true)

-- what the rules ask of a hall and a policy
pub record Fits (h : Hall) (c : Content) : Type 0 where
  -- every place covers a point
  pub points : (p : ℕ) → p < length h.places → has_point h p ≡ true
  -- a role's extent is a place of its schema's extent type
  pub extents : (r : ℕ) → r < length c.roles → type_at h (role_at c r).extent ≡ Some (schema_of_role c r).extent
  -- a logic place lies in some place of the extent type
  pub located : (s : ℕ) → s < length c.schemas → TypeLies h (schema_at c s).logic (schema_at c s).extent
  -- a logic place lies in each place of the extent type that it shares a point with
  pub whole : (s l e : ℕ) → s < length c.schemas → type_at h l ≡ Some (schema_at c s).logic → type_at h e ≡ Some (schema_at c s).extent → shares h l e ≡ true → lies_in h l e ≡ true
  -- the types of a child lie in those of its parent
  pub extent_types : (k : ℕ) → k < length c.parents → TypeLies h (child_of c k).extent (parent_of c k).extent
  pub logic_types : (k : ℕ) → k < length c.parents → TypeLies h (child_of c k).logic (parent_of c k).logic
  -- patience never grows from parent to child
  pub patience : (k : ℕ) → k < length c.parents → (child_of c k).patience ≤ (parent_of c k).patience

-- a sealed policy fits its hall
abbrev pub SealedFits : Type 0
SealedFits = (h : Hall) (ws : List ℕ) (c : Content) → sealing h ws ≡ Ok c → Fits h c

-- each role is its own ancestor, and an ancestor of an ancestor is one
pub record Lineage (h : Hall) (c : Content) : Type 0 where
  pub itself : (r : ℕ) → r < length c.roles → ancestor (lies_in h) c r r ≡ true
  pub on : (r a e : ℕ) → ancestor (lies_in h) c r a ≡ true → ancestor (lies_in h) c a e ≡ true → ancestor (lies_in h) c r e ≡ true

-- ancestors in a sealed policy are a preorder of its roles
abbrev pub SealedLineage : Type 0
SealedLineage = (h : Hall) (ws : List ℕ) (c : Content) → sealing h ws ≡ Ok c → Lineage h c

-- at each point and after any misses, what is enabled in a role is enabled in its ancestors
abbrev pub EnabledUp : Type 0
EnabledUp =
    (h : Hall) (ws : List ℕ) (c : Content) → sealing h ws ≡ Ok c
    → (r a : ℕ) → ancestor (lies_in h) c r a ≡ true
    → (x y m : ℕ) → enabled_at (ground_of h c) r x y m ≡ true → enabled_at (ground_of h c) a x y m ≡ true
