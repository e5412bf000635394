-- The places that lie in the extent of a role.
use Rattle.std.specs.Prelude.{ℕ, Bool, ◌&&◌, length, nat_lt}
use Rattle.policy.specs.Contents.{Content, role_at}

-- role r and place p are in use, of n places, and p lies in r's extent, where one place lies in another as `lies` says
abbrev pub extent_holds : ℕ → (ℕ → ℕ → Bool) → Content → ℕ → ℕ → Bool
extent_holds n lies c r p = (nat_lt r (length c.roles) && nat_lt p n) && lies p (role_at c r).extent
