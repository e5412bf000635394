-- Rows of sets.
use Rattle.std.specs.Prelude.{ℕ, Bool, List, slice_index_or}
use Rattle.sets.specs.declared.Set64.{Set64}
use Rattle.sets.specs.Member.{member}

-- number j is in entry i; past the last entry there is none
abbrev pub cell : List Set64 → ℕ → ℕ → Bool
cell rows i j = member (slice_index_or rows i (record { bits = 0 })).bits j
