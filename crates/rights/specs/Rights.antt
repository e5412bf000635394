-- The rights of a role: an operation on an object.
use Rattle.std.specs.Prelude.{ℕ, Bool, ◌&&◌, ◌||◌, length, nat_lt}
use Rattle.sets.specs.Bounds.{some}
use Rattle.policy.specs.Contents.{Content, role_at, role_permits, schema_permits}

-- role r is in use, operation and object are below 256, and a permission of the role or of its schema has them
abbrev pub carries : Content → ℕ → ℕ → ℕ → Bool
carries c r operation object =
    (nat_lt r (length c.roles) && (nat_lt operation 256 && nat_lt object 256))
    && (role_permits c r operation object || schema_permits c (role_at c r).schema operation object)

-- role a is above role r and carries the right
abbrev pub lends : (ℕ → ℕ → Bool) → Content → ℕ → ℕ → ℕ → ℕ → Bool
lends above c r operation object a = above r a && carries c a operation object

-- role r has the rights that a role above it carries
abbrev pub has_right : (ℕ → ℕ → Bool) → Content → ℕ → ℕ → ℕ → Bool
has_right above c r operation object = some (length c.roles) (lends above c r operation object)
