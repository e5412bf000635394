-- Where a badge is for a role, and whether the role is enabled there.
use Rattle.std.specs.Prelude.{ℕ, Bool, false, cond, Some, None, Option, nat_le}
use Rattle.checks.specs.Faults.{schema_of_role}
use Rattle.sealing.specs.Ground.{Ground}

module _ (g : Ground) where
  -- the patience of role r's schema suffices for m misses
  abbrev pub bears : ℕ → ℕ → Bool
  bears r m = nat_le m (schema_of_role g.content r).patience

  -- where a badge heard at (x, y) and missed m times since is for role r
  abbrev pub where_at : ℕ → ℕ → ℕ → ℕ → Option ℕ
  where_at r x y m = cond (bears r m) (g.placed_at (schema_of_role g.content r).logic x y) None

  -- there is a place, and it lies in the extent of role r
  abbrev pub held : ℕ → Option ℕ → Bool
  held r None = false
  held r (Some p) = g.holds r p

  -- role r is enabled for a badge heard at (x, y) and missed m times since
  abbrev pub enabled_at : ℕ → ℕ → ℕ → ℕ → Bool
  enabled_at r x y m = held r (where_at r x y m)
