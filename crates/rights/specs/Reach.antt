-- The schemas that are reached from a schema by steps from child to parent.
use Rattle.std.specs.Prelude.{◌≡◌, ℕ, zero, suc, ◌<◌, Bool, ◌&&◌, ◌||◌, length, ◌==◌}
use Rattle.sets.specs.Bounds.{some}
use Rattle.policy.specs.Contents.{Content, parent_at}

-- schema a is schema s, or is reached from a parent of it
pub data Reached (c : Content) : ℕ → ℕ → Type 0 where
  none : {s : ℕ} → Reached c s s
  step : {s a : ℕ} → (k : ℕ) → k < length c.parents → (parent_at c k).child ≡ s → Reached c (parent_at c k).parent a → Reached c s a

-- record k is a step from s to a schema that passes
abbrev pub by_step : Content → ℕ → (ℕ → Bool) → ℕ → Bool
by_step c s passes k = (parent_at c k).child == s && passes (parent_at c k).parent

-- schema a is reached from schema s by at most n steps
abbrev pub within : ℕ → Content → ℕ → ℕ → Bool
within zero c a s = a == s
within (suc n) c a s = a == s || some (length c.parents) (by_step c s (within n c a))

-- schema a is reached from schema s: a step goes to a lower number, so that there are at most s of them
abbrev pub reaches : Content → ℕ → ℕ → Bool
reaches c s a = within s c a s
