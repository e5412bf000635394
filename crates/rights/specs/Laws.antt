-- Laws of what is reached, of ancestors, of rights and of entitlement.
use Rattle.std.specs.Prelude.{◌≡◌, ℕ, ◌<◌, Bool, true, ◌⊎◌, length, Decides}
use Rattle.policy.specs.declared.policy.Policy.{Policy}
use Rattle.policy.specs.Contents.{Content, role_at}
use Rattle.policy.specs.Policies.{says}
use Rattle.rights.specs.Reach.{Reached, reaches}
use Rattle.rights.specs.Ancestors.{by_extent, ancestor_by, ancestor}
use Rattle.rights.specs.Rights.{carries, has_right}
use Rattle.rights.specs.Entitlement.{assigned, entitled}

-- each number is related to itself
abbrev pub Reflexive : (ℕ → ℕ → Bool) → Type 0
Reflexive f = (i : ℕ) → f i i ≡ true

-- what is related by way of another is related
abbrev pub Transitive : (ℕ → ℕ → Bool) → Type 0
Transitive f = (i j k : ℕ) → f i j ≡ true → f j k ≡ true → f i k ≡ true

-- a schema is said to be reached exactly when it is
abbrev pub ReachesMeans : Type 0
ReachesMeans = (p : Policy) (s a : ℕ) → Decides (reaches (says p) s a) (Reached (says p) s a)

-- a schema is reached from itself
abbrev pub ReachesItself : Type 0
ReachesItself = (p : Policy) → Reflexive (reaches (says p))

-- what is reached from a reached schema is reached
abbrev pub ReachesOn : Type 0
ReachesOn = (p : Policy) → Transitive (reaches (says p))

-- an ancestor of role r is a role in use whose schema is reached from r's and in whose extent r's lies
abbrev pub AncestorMeans : Type 0
AncestorMeans = (p : Policy) (lies : ℕ → ℕ → Bool) (r a : ℕ)
    → Decides (ancestor lies (says p) r a)
    ((r < length (says p).roles) × (a < length (says p).roles) × Reached (says p) (role_at (says p) r).schema (role_at (says p) a).schema × (by_extent lies (says p) r a ≡ true))

-- where each place lies in itself, a role in use is its own ancestor
abbrev pub AncestorItself : Type 0
AncestorItself = (p : Policy) (lies : ℕ → ℕ → Bool) → Reflexive lies → (r : ℕ) → r < length (says p).roles → ancestor lies (says p) r r ≡ true

-- where lying is transitive, an ancestor of an ancestor is an ancestor
abbrev pub AncestorOn : Type 0
AncestorOn = (p : Policy) (lies : ℕ → ℕ → Bool) → Transitive lies → Transitive (ancestor lies (says p))

-- a table of what is reached, and one of lying that is right of the extents of roles, give the ancestors
abbrev pub AncestorSame : Type 0
AncestorSame = (p : Policy) (reach table lies : ℕ → ℕ → Bool)
    → ((s a : ℕ) → s < 32 → reach s a ≡ reaches (says p) s a)
    → ((r a : ℕ) → r < length (says p).roles → a < length (says p).roles → by_extent table (says p) r a ≡ by_extent lies (says p) r a)
    → (r a : ℕ) → ancestor_by reach table (says p) r a ≡ ancestor lies (says p) r a

-- a role has a right exactly when a role above it carries it
abbrev pub RightMeans : Type 0
RightMeans = (above : ℕ → ℕ → Bool) (c : Content) (r operation object : ℕ)
    → Decides (has_right above c r operation object) ((a : ℕ) × (a < length c.roles) × (above r a ≡ true) × (carries c a operation object ≡ true))

-- where above is transitive, a role has every right that a role above it has
abbrev pub RightDown : Type 0
RightDown = (above : ℕ → ℕ → Bool) (c : Content) → Transitive above
    → (r a operation object : ℕ) → above r a ≡ true → has_right above c a operation object ≡ true → has_right above c r operation object ≡ true

-- where the same roles are above it, a role has the same rights
abbrev pub RightSame : Type 0
RightSame = (f g : ℕ → ℕ → Bool) (c : Content) (r operation object : ℕ) → ((a : ℕ) → f r a ≡ g r a) → has_right f c r operation object ≡ has_right g c r operation object

-- a badge is entitled to a role exactly when it is assigned it or a role that it is above
abbrev pub EntitledMeans : Type 0
EntitledMeans = (above : ℕ → ℕ → Bool) (c : Content) (b a : ℕ)
    → Decides (entitled above c b a) ((assigned c b a ≡ true) ⊎ ((r : ℕ) × (r < length c.roles) × (assigned c b r ≡ true) × (above r a ≡ true)))

-- where above is transitive, who is entitled to a role is entitled to each role above it
abbrev pub EntitledUp : Type 0
EntitledUp = (above : ℕ → ℕ → Bool) (c : Content) → Transitive above → (b r a : ℕ) → entitled above c b r ≡ true → above r a ≡ true → entitled above c b a ≡ true

-- where the same roles are above each, a badge is entitled to the same
abbrev pub EntitledSame : Type 0
EntitledSame = (f g : ℕ → ℕ → Bool) (c : Content) (b a : ℕ) → ((r : ℕ) → f r a ≡ g r a) → entitled f c b a ≡ entitled g c b a
