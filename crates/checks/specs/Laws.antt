-- What the sight of a hall says of types is what the hall says of its places.
use Rattle.std.specs.Prelude.{◌≡◌, ℕ}
use Rattle.plan.specs.Hall.{Hall}
use Rattle.plan.specs.Lying.{lies_in_some, type_lies}
use Rattle.checks.specs.Sight.{sight_of, in_some, type_within}

-- place p lies in some place of type t
abbrev pub SomeSays : Type 0
SomeSays = (h : Hall) (t p : ℕ) → in_some (sight_of h) t p ≡ lies_in_some h t p

-- every place of type t lies in some place of type u
abbrev pub TypesSay : Type 0
TypesSay = (h : Hall) (t u : ℕ) → type_within (sight_of h) t u ≡ type_lies h t u
