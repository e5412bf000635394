-- The set of what passes.
use Rattle.std.specs.Prelude.{ℕ, Bool}
use Rattle.sets.specs.declared.Set64.{Set64}
use Rattle.sets.specs.Member.{word_of}

-- the set of the numbers below 64 that pass
unfoldable pub gathered : (ℕ → Bool) → Set64
gathered passes = record { bits = word_of 64 passes }
