-- What the words of a place say one by one, in an array of sixteen.
use Rattle.std.specs.Prelude.{ℕ, ◌-◌, List, ◌++◌, map, take, replicate}

-- what each of the first n words says, and then what zero says, sixteen in all
abbrev pub padded : {X : Type 0} → (ℕ → X) → ℕ → List ℕ → List X
padded said n ws = map said (take n ws) ++ replicate (16 - n) (said 0)
