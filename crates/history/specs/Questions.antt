-- What is asked of a badge by how it stands.
use Rattle.std.specs.Prelude.{ℕ, Bool, false, ◌&&◌, Some, None, Option, nat_lt}
use Rattle.rights.specs.Rights.{has_right}
use Rattle.sealing.specs.Ground.{Ground}
use Rattle.sealing.specs.Located.{bears, where_at, held}
use Rattle.calls.specs.Standing.{Standing}

-- what f says of the position, and `otherwise` where the badge was never heard
abbrev pub at_position : {A : Type 0} → Option (ℕ × ℕ) → A → (ℕ → ℕ → A) → A
at_position None otherwise f = otherwise
at_position (Some p) otherwise f = f p.0 p.1

-- the operation is one that there can be, below 16, and role r has the right
abbrev pub may : Ground → ℕ → ℕ → ℕ → Bool
may g operation object r = nat_lt operation 16 && has_right g.above g.content r operation object

module _ (g : Ground) (st : Standing) where
  -- the place where the badge is for role r
  abbrev pub where_is : ℕ → Option ℕ
  where_is r = at_position st.position None (λ x y. where_at g r x y st.misses)

  -- role r is enabled: there is such a place, and it lies in the role's extent
  abbrev pub is_enabled : ℕ → Bool
  is_enabled r = held g r (where_is r)

  -- the badge was heard, and role r bears its misses
  abbrev pub is_patient : ℕ → Bool
  is_patient r = at_position st.position false (λ _ _. bears g r st.misses)

  -- role r is active in session s and may do the operation on the object
  abbrev pub serves : ℕ → ℕ → ℕ → ℕ → Bool
  serves s operation object r = st.active s r && may g operation object r

  -- such a role bears the misses
  abbrev pub serves_patient : ℕ → ℕ → ℕ → ℕ → Bool
  serves_patient s operation object r = serves s operation object r && is_patient r

  -- such a role is enabled
  abbrev pub grants : ℕ → ℕ → ℕ → ℕ → Bool
  grants s operation object r = serves s operation object r && is_enabled r

  -- role r is active in session s and enabled
  abbrev pub acts : ℕ → ℕ → Bool
  acts s r = st.active s r && is_enabled r
