-- What is enabled in a role of a sealed policy is enabled in each of its ancestors.
use Rattle.std.proofs.Common.{◌≡◌, ℕ, ◌<◌, ◌≤◌, true, false, ◌&&◌, ltb, leb, length, Some, None, Option, sym, refl, ap, ◌∙◌, ⊎_elim, arith}
use Rattle.std.proofs.lemmas.Bool.{cases_Bool, and_parts, and_from, le-leb, leb-true, lt-ltb, false≢true}
use Rattle.sets.proofs.Bounds.{lowest_passes, lowest_at}
use Rattle.plan.specs.Hall.{Hall, type_at, covers_at}
use Rattle.plan.specs.Lying.{lies_in}
use Rattle.survey.specs.Kept.{is_type}
use Rattle.survey.proofs.Lying.{lies_means, lies_itself, lies_on, shares_means}
use Rattle.survey.proofs.Types.{in_use}
use Rattle.policy.specs.Contents.{Content, schema_at, parent_at, role_at}
use Rattle.policy.specs.Facts.{SchemasIn}
use Rattle.checks.specs.Faults.{schema_of_role}
use Rattle.rights.specs.Reach.{Reached, none, step, reaches}
use Rattle.rights.specs.Ancestors.{ancestor}
use Rattle.rights.proofs.Ancestral.{parts}
use Rattle.rights.proofs.Reaching.{reached_from}
use Rattle.sealing.specs.Ground.{stands_at, place_at, ground_of}
use Rattle.sealing.specs.Located.{held, enabled_at}
use Rattle.sealing.specs.Laws.{TypeLies, Fits, EnabledUp}
use Rattle.sealing.proofs.Reading.{sealing_kept}
use Rattle.sealing.proofs.Fitting.{typed, is_typed, sealed_fits}

-- what holds of a role r and an ancestor a of it
record Above (h : Hall) (c : Content) (r a : ℕ) : Type 0 where
  pub used : a < length c.roles
  pub extents : lies_in h (role_at c r).extent (role_at c a).extent ≡ true
  pub logics : TypeLies h (schema_of_role c r).logic (schema_of_role c a).logic
  pub whole : (q x y : ℕ) → type_at h q ≡ Some (schema_of_role c a).logic → covers_at h q x y ≡ true → covers_at h (role_at c a).extent x y ≡ true → lies_in h q (role_at c a).extent ≡ true
  pub patience : (schema_of_role c r).patience ≤ (schema_of_role c a).patience

module _ (h : Hall) (c : Content) (fits : Fits h c) where
  -- the logic type of a schema lies in that of each schema that is reached from it
  logics_up : (s a : ℕ) → Reached c s a → TypeLies h (schema_at c s).logic (schema_at c a).logic
  logics_up s a none p is = (p, is, lies_itself h p)
  logics_up s a (step k l e up) p is =
      let first = fits.logic_types k l p (is ∙ ap (λ n. Some (schema_at c n).logic) (sym e)) in
      let rest = logics_up (parent_at c k).parent a up first.0 first.1 in
      (rest.0, rest.1, lies_on h p first.0 rest.0 first.2 rest.2)

  -- patience does not fall on the way up
  patience_up : (s a : ℕ) → Reached c s a → (schema_at c s).patience ≤ (schema_at c a).patience
  patience_up s a none = omega arith
  patience_up s a (step k l e up) = omega (arith, fits.patience k l, patience_up (parent_at c k).parent a up, ap (λ n. (schema_at c n).patience) e)

  -- an ancestor is above
  above_from : SchemasIn (length c.schemas) c.roles → (r a : ℕ) → ancestor (lies_in h) c r a ≡ true → Above h c r a
  above_from schemas r a e =
      let w = parts c (reaches c) (lies_in h) r a e in
      let up = reached_from c (role_at c r).schema (role_at c a).schema (role_at c r).schema w.2 in
      record {
        used = w.1;
        extents = w.3;
        logics = logics_up (role_at c r).schema (role_at c a).schema up;
        whole = λ q x y is cq ce.
            fits.whole (role_at c a).schema q (role_at c a).extent (schemas a (record { extent = 0; schema = 0 }) w.1) is (fits.extents a w.1)
            ((shares_means h q (role_at c a).extent).1 (x, y, cq, ce));
        patience = patience_up (role_at c r).schema (role_at c a).schema up;
      }

module _ (h : Hall) (c : Content) (r a : ℕ) (above : Above h c r a) (x y : ℕ) where
  -- from the place of r to that of a
  from_place : (p : ℕ) → place_at h (schema_of_role c r).logic x y ≡ Some p → (ground_of h c).holds r p ≡ true → held (ground_of h c) a (place_at h (schema_of_role c a).logic x y) ≡ true
  from_place p found holds =
      let n = length h.places in
      let lies = (and_parts (ltb r (length c.roles) && ltb p n) (lies_in h p (role_at c r).extent) holds).1 in
      let passes = lowest_passes (stands_at h (schema_of_role c r).logic x y) n p found in
      let here = and_parts (is_type (schema_of_role c r).logic (type_at h p)) (covers_at h p x y) passes.0 in
      let outer = above.logics p (typed _ _ here.0) in
      let q = outer.0 in
      let q_stands : stands_at h (schema_of_role c a).logic x y q ≡ true = and_from _ _ (is_typed _ _ outer.1) ((lies_means h p q).0 outer.2 x y here.1) in
      let least = lowest_at (stands_at h (schema_of_role c a).logic x y) n q (in_use h q _ outer.1) q_stands in
      let m = least.0 in
      let m-passes = lowest_passes (stands_at h (schema_of_role c a).logic x y) n m least.1 in
      let m-here = and_parts (is_type (schema_of_role c a).logic (type_at h m)) (covers_at h m x y) m-passes.0 in
      let in-extent = (lies_means h (role_at c r).extent (role_at c a).extent).0 above.extents x y ((lies_means h p (role_at c r).extent).0 lies x y here.1) in
      ap (held (ground_of h c) a) least.1
      ∙ and_from _ _ (and_from _ _ (lt-ltb a (length c.roles) above.used) (lt-ltb m n m-passes.1)) (above.whole m x y (typed _ _ m-here.0) m-here.1 in-extent)

  by_place : (o : Option ℕ) → place_at h (schema_of_role c r).logic x y ≡ o → held (ground_of h c) r o ≡ true → held (ground_of h c) a (place_at h (schema_of_role c a).logic x y) ≡ true
  by_place None e on = absurd (false≢true on)
  by_place (Some p) e on = from_place p e on

  -- patience that suffices in r suffices in a
  at_above : (m : ℕ) → enabled_at (ground_of h c) r x y m ≡ true → enabled_at (ground_of h c) a x y m ≡ true
  at_above m on =
      ⊎_elim
      (λ (e : leb m (schema_of_role c r).patience ≡ true).
      let e' : leb m (schema_of_role c a).patience ≡ true = le-leb _ _ (omega (arith, leb-true _ _ e, above.patience)) in
      let on' : held (ground_of h c) r (place_at h (schema_of_role c r).logic x y) ≡ true = rw e at on in
      rw e' (by_place (place_at h (schema_of_role c r).logic x y) refl on'))
      (λ (e : leb m (schema_of_role c r).patience ≡ false). absurd (false≢true (rw e at on)))
      (cases_Bool (leb m (schema_of_role c r).patience))

pub enabled_up : EnabledUp
enabled_up h ws c sealed r a anc = at_above h c r a (above_from h c (sealed_fits h ws c sealed) (sealing_kept h ws c sealed).1 r a anc)
