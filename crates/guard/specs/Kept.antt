-- What a guard keeps.
use Rattle.std.specs.Prelude.{ℕ, [], None, slice_index_or}
use Rattle.plan.specs.Hall.{Hall}
use Rattle.sealing.specs.Ground.{Ground}
use Rattle.calls.specs.declared.badge.Badge.{Badge}
use Rattle.calls.specs.Kept.{standing_of}
use Rattle.calls.specs.Standing.{Standing}
use Rattle.site.specs.Kept.{ground}
use Rattle.guard.specs.declared.guard.Guard.{Guard}

-- a badge that is not there: never heard, with no sessions
abbrev pub absent : Badge
absent = record { track = None; sessions = [] }

module _ {P : Type 0} where
  -- how badge b stands by what the guard keeps
  abbrev pub kept_of : Guard P → ℕ → Standing
  kept_of g b = standing_of (slice_index_or g.badges b absent)

  -- the ground of a guard whose plan means the hall
  abbrev pub ground_in : Hall → Guard P → Ground
  ground_in h g = ground h g.site
