-- What a test of two numbers that the caller hands over is known by.
use Rattle.std.specs.Prelude.{ℕ, Bool, ◌≡◌, ◌<◌}

-- of each two numbers below n the test answers what f says of them; `calls i j b` is that a call with i and j can answer b
abbrev pub RelatesBy : ℕ → (ℕ → ℕ → Bool → Type 0) → (ℕ → ℕ → Bool) → Type 0
RelatesBy n calls f = (i j : ℕ) (b : Bool) → i < n → j < n → calls i j b → b ≡ f i j
