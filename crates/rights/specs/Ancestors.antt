-- The ancestors of a role.
use Rattle.std.specs.Prelude.{ℕ, Bool, ◌&&◌, length, nat_lt}
use Rattle.policy.specs.Contents.{Content, role_at}
use Rattle.rights.specs.Reach.{reaches}

-- the schemas of roles r and a are related
abbrev pub by_schema : (ℕ → ℕ → Bool) → Content → ℕ → ℕ → Bool
by_schema f c r a = f (role_at c r).schema (role_at c a).schema

-- the extents of roles r and a are related
abbrev pub by_extent : (ℕ → ℕ → Bool) → Content → ℕ → ℕ → Bool
by_extent f c r a = f (role_at c r).extent (role_at c a).extent

-- roles r and a are in use, a's schema is reached from r's, and r's extent lies in a's
abbrev pub ancestor_by : (ℕ → ℕ → Bool) → (ℕ → ℕ → Bool) → Content → ℕ → ℕ → Bool
ancestor_by reach lies c r a = (nat_lt r (length c.roles) && nat_lt a (length c.roles)) && (by_schema reach c r a && by_extent lies c r a)

-- role a is an ancestor of role r, where one place lies in another as `lies` says
abbrev pub ancestor : (ℕ → ℕ → Bool) → Content → ℕ → ℕ → Bool
ancestor lies c = ancestor_by (reaches c) lies c
