-- Tables that are right give the ancestors.
use Rattle.std.proofs.Common.{◌≡◌, ℕ, ◌<◌, ◌≤◌, Bool, true, false, ◌&&◌, ltb, length, sym, ap, ◌∙◌, ⊎_elim}
use Rattle.std.proofs.lemmas.Bool.{cases_Bool, and_parts, and_left, and_right, ltb-true, le-ltb}
use Rattle.policy.specs.Contents.{Content}
use Rattle.rights.specs.Ancestors.{by_schema, by_extent, ancestor_by}

module _ (c : Content) (f f' g g' : ℕ → ℕ → Bool) where
  -- relations that agree on the schemas and on the extents of two roles in use
  pub ancestor_same : (r a : ℕ)
      → (r < length c.roles → a < length c.roles → by_schema f c r a ≡ by_schema f' c r a)
      → (r < length c.roles → a < length c.roles → by_extent g c r a ≡ by_extent g' c r a)
      → ancestor_by f g c r a ≡ ancestor_by f' g' c r a
  ancestor_same r a reach lies =
      let used = ltb r (length c.roles) && ltb a (length c.roles) in
      ⊎_elim
      (λ (e : (ltb r (length c.roles) && ltb a (length c.roles)) ≡ true).
      let both = and_parts (ltb r (length c.roles)) (ltb a (length c.roles)) e in
      let rl : r < length c.roles = ltb-true _ _ both.0 in
      let al : a < length c.roles = ltb-true _ _ both.1 in
      ap (λ (b : Bool). used && (b && by_extent g c r a)) (reach rl al)
      ∙ ap (λ (b : Bool). used && (by_schema f' c r a && b)) (lies rl al))
      (λ (e : (ltb r (length c.roles) && ltb a (length c.roles)) ≡ false). and_left _ _ e ∙ sym (and_left _ _ e))
      (cases_Bool (ltb r (length c.roles) && ltb a (length c.roles)))

module _ (c : Content) (f g : ℕ → ℕ → Bool) where
  -- a number past the roles is no ancestor
  pub ancestor_past : (r a : ℕ) → length c.roles ≤ a → ancestor_by f g c r a ≡ false
  ancestor_past r a l = and_left _ _ (and_right (ltb r (length c.roles)) _ (le-ltb a (length c.roles) l))

  -- and it has none
  pub none_above : (r a : ℕ) → length c.roles ≤ r → ancestor_by f g c r a ≡ false
  none_above r a l = and_left _ _ (and_left (ltb r (length c.roles)) _ (le-ltb r (length c.roles) l))
