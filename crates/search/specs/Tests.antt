-- What a test of numbers that the caller hands over is known by.
use Rattle.std.specs.Prelude.{ℕ, Bool, ◌≡◌, ◌<◌}

-- of each number below n the test answers what p says of it; `calls k b` is that a call with k can answer b
abbrev pub AnswersBy : ℕ → (ℕ → Bool → Type 0) → (ℕ → Bool) → Type 0
AnswersBy n calls p = (k : ℕ) (b : Bool) → k < n → calls k b → b ≡ p k
