-- The roles that a badge is entitled to.
use Rattle.std.specs.Prelude.{ℕ, Bool, ◌&&◌, ◌||◌, length, nat_lt}
use Rattle.sets.specs.Bounds.{some}
use Rattle.policy.specs.Contents.{Content, is_assigned}

-- badge b and role r are in use, and the badge is assigned the role
abbrev pub assigned : Content → ℕ → ℕ → Bool
assigned c b r = (nat_lt b c.badges && nat_lt r (length c.roles)) && is_assigned c b r

-- badge b is assigned role r, and role a is above it
abbrev pub raises : (ℕ → ℕ → Bool) → Content → ℕ → ℕ → ℕ → Bool
raises above c b a r = assigned c b r && above r a

-- badge b is assigned role a or a role that a is above
abbrev pub entitled : (ℕ → ℕ → Bool) → Content → ℕ → ℕ → Bool
entitled above c b a = assigned c b a || some (length c.roles) (raises above c b a)
