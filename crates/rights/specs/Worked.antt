-- Worked answers: a small policy, and what follows from it.
use Rattle.std.specs.Prelude.{◌≡◌, ℕ, Bool, true, false, ◌&&◌, ◌||◌, [], ◌∷◌, ◌==◌}
use Rattle.policy.specs.Contents.{Content}
use Rattle.rights.specs.Reach.{reaches}
use Rattle.rights.specs.Ancestors.{ancestor}
use Rattle.rights.specs.Rights.{carries, has_right}
use Rattle.rights.specs.Entitlement.{entitled}

-- schema 2 has the parent 1, which has the parent 0; roles 1 and 2 are of schema 1, at places 1 and 3; role 3 is of schema 2, at place 2
abbrev pub small : Content
small = record {
  badges = 2;
  schemas = record { extent = 0; logic = 1; patience = 2 } ∷ record { extent = 1; logic = 2; patience = 0 } ∷ record { extent = 1; logic = 2; patience = 0 } ∷ [];
  parents = record { parent = 0; child = 1 } ∷ record { parent = 1; child = 2 } ∷ [];
  roles = record { extent = 0; schema = 0 } ∷ record { extent = 1; schema = 1 } ∷ record { extent = 3; schema = 1 } ∷ record { extent = 2; schema = 2 } ∷ [];
  schema_permissions = record { object = 5; operation = 1; schema = 0 } ∷ [];
  role_permissions = record { object = 6; operation = 2; role = 1 } ∷ [];
  assignments = record { role = 3; badge = 0 } ∷ record { role = 0; badge = 1 } ∷ [];
}

-- each place lies in itself and in place 0, and place 2 lies in place 1
abbrev pub inside : ℕ → ℕ → Bool
inside i j = i == j || (j == 0 || (i == 2 && j == 1))

-- the ancestors in the small policy
abbrev pub above : ℕ → ℕ → Bool
above = ancestor inside small

abbrev pub Worked : Type 0
Worked =
    -- two steps up, none, and never down
    (reaches small 2 0 ≡ true)
    × (reaches small 2 2 ≡ true)
    × (reaches small 0 2 ≡ false)
    -- the schema must be reached and the extent must lie in the other; a number that is not in use has no ancestor
    × (above 3 0 ≡ true)
    × (above 3 1 ≡ true)
    × (above 3 2 ≡ false)
    × (above 1 2 ≡ false)
    × (above 0 3 ≡ false)
    × (above 4 4 ≡ false)
    -- by the schema's permission, by the role's own, and by none
    × (carries small 0 1 5 ≡ true)
    × (carries small 1 2 6 ≡ true)
    × (carries small 1 1 5 ≡ false)
    × (carries small 0 257 5 ≡ false)
    -- the rights of ancestors
    × (has_right above small 3 1 5 ≡ true)
    × (has_right above small 3 2 6 ≡ true)
    × (has_right above small 2 2 6 ≡ false)
    × (has_right above small 4 1 5 ≡ false)
    -- the roles of a badge and their ancestors
    × (entitled above small 0 3 ≡ true)
    × (entitled above small 0 1 ≡ true)
    × (entitled above small 0 2 ≡ false)
    × (entitled above small 1 3 ≡ false)
    × (entitled above small 2 0 ≡ false)
