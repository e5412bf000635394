-- Laws of ancestors.
use Rattle.std.proofs.Common.{◌≡◌, ℕ, ◌<◌, Bool, true, ◌&&◌, ltb, length}
use Rattle.std.proofs.lemmas.Bool.{and_parts, and_from, ltb-true, lt-ltb}
use Rattle.policy.specs.Contents.{Content, role_at}
use Rattle.policy.specs.Policies.{says}
use Rattle.rights.specs.Reach.{reaches}
use Rattle.rights.specs.Ancestors.{by_schema, by_extent, ancestor_by}
use Rattle.rights.specs.Laws.{AncestorMeans, AncestorItself, AncestorOn, AncestorSame}
use Rattle.rights.proofs.Aboves.{ancestor_same}
use Rattle.rights.proofs.Counts.{schema_in}
use Rattle.rights.proofs.Reaching.{reaches_means, reaches_itself, reaches_on}

module _ (c : Content) (f g : ℕ → ℕ → Bool) (r a : ℕ) where
  pub parts : ancestor_by f g c r a ≡ true
      → (r < length c.roles) × (a < length c.roles) × (by_schema f c r a ≡ true) × (by_extent g c r a ≡ true)
  parts e =
      let p = and_parts (ltb r (length c.roles) && ltb a (length c.roles)) _ e in
      let used = and_parts (ltb r (length c.roles)) (ltb a (length c.roles)) p.0 in
      let ways = and_parts (by_schema f c r a) (by_extent g c r a) p.1 in
      (ltb-true _ _ used.0, ltb-true _ _ used.1, ways.0, ways.1)

  pub whole : r < length c.roles → a < length c.roles → by_schema f c r a ≡ true → by_extent g c r a ≡ true → ancestor_by f g c r a ≡ true
  whole rl al e h = and_from _ _ (and_from _ _ (lt-ltb r (length c.roles) rl) (lt-ltb a (length c.roles) al)) (and_from _ _ e h)

pub ancestor_means : AncestorMeans
ancestor_means p lies r a = (
  (λ e. let w = parts (says p) (reaches (says p)) lies r a e in (w.0, w.1, (reaches_means p (role_at (says p) r).schema (role_at (says p) a).schema).0 w.2, w.3)),
  (λ w. whole (says p) (reaches (says p)) lies r a w.0 w.1 ((reaches_means p (role_at (says p) r).schema (role_at (says p) a).schema).1 w.2) w.3),
)

pub ancestor_itself : AncestorItself
ancestor_itself p lies same r l = whole (says p) (reaches (says p)) lies r r l l (reaches_itself p (role_at (says p) r).schema) (same (role_at (says p) r).extent)

pub ancestor_on : AncestorOn
ancestor_on p lies on r t a e h =
    let v = parts (says p) (reaches (says p)) lies r t e in
    let w = parts (says p) (reaches (says p)) lies t a h in
    whole (says p) (reaches (says p)) lies r a v.0 w.1
    (reaches_on p (role_at (says p) r).schema (role_at (says p) t).schema (role_at (says p) a).schema v.2 w.2)
    (on (role_at (says p) r).extent (role_at (says p) t).extent (role_at (says p) a).extent v.3 w.3)

pub tables_meant : AncestorSame
tables_meant p reach table lies closed right r a =
    ancestor_same (says p) reach (reaches (says p)) table lies r a
    (λ rl al. closed (role_at (says p) r).schema (role_at (says p) a).schema (schema_in p r rl))
    (λ rl al. right r a rl al)
