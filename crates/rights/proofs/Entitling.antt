-- Laws of entitlement.
use Rattle.std.proofs.Common.{◌≡◌, ℕ, ◌<◌, Bool, true, ◌&&◌, ◌||◌, ltb, length, ap, inl, inr, ⊎_elim}
use Rattle.std.proofs.lemmas.Bool.{and_parts, and_from, or_left, or_right, or_cases, ltb-true}
use Rattle.sets.specs.Bounds.{some}
use Rattle.sets.proofs.Bounds.{decides_some, some_same, some_here}
use Rattle.policy.specs.Contents.{Content, is_assigned}
use Rattle.rights.specs.Entitlement.{assigned, raises, entitled}
use Rattle.rights.specs.Laws.{EntitledMeans, EntitledUp, EntitledSame}

-- an assigned role is in use
in_use : (c : Content) (b r : ℕ) → assigned c b r ≡ true → r < length c.roles
in_use c b r e =
    let both = and_parts (ltb b c.badges && ltb r (length c.roles)) (is_assigned c b r) e in
    ltb-true _ _ (and_parts (ltb b c.badges) (ltb r (length c.roles)) both.0).1

by_role : (above : ℕ → ℕ → Bool) (c : Content) (b a r : ℕ) → assigned c b r ≡ true → above r a ≡ true → entitled above c b a ≡ true
by_role above c b a r own up = or_right (assigned c b a) _ (some_here (raises above c b a) r (length c.roles) (in_use c b r own) (and_from _ _ own up))

found_role : (above : ℕ → ℕ → Bool) (c : Content) (b a : ℕ) → some (length c.roles) (raises above c b a) ≡ true → (r : ℕ) × (r < length c.roles) × (assigned c b r ≡ true) × (above r a ≡ true)
found_role above c b a e =
    let found = (decides_some (raises above c b a) (length c.roles)).0 e in
    let both = and_parts (assigned c b found.0) (above found.0 a) found.2 in
    (found.0, found.1, both.0, both.1)

pub entitled_means : EntitledMeans
entitled_means above c b a = (
  (λ e. ⊎_elim (λ (h : assigned c b a ≡ true). inl h) (λ (h : some (length c.roles) (raises above c b a) ≡ true). inr (found_role above c b a h)) (or_cases (assigned c b a) (some (length c.roles) (raises above c b a)) e)),
  (λ w. ⊎_elim (λ (h : assigned c b a ≡ true). or_left (assigned c b a) _ h) (λ (h : (r : ℕ) × (r < length c.roles) × (assigned c b r ≡ true) × (above r a ≡ true)). by_role above c b a h.0 h.2 h.3) w),
)

pub entitled_up : EntitledUp
entitled_up above c on b r a e up =
    ⊎_elim
    (λ (h : assigned c b r ≡ true). by_role above c b a r h up)
    (λ (h : some (length c.roles) (raises above c b r) ≡ true). let w = found_role above c b r h in by_role above c b a w.0 w.2 (on w.0 r a w.3 up))
    (or_cases (assigned c b r) (some (length c.roles) (raises above c b r)) e)

pub entitled_same : EntitledSame
entitled_same f g c b a e =
    ap (λ (t : Bool). assigned c b a || t) (some_same (length c.roles) (raises f c b a) (raises g c b a) (λ r l. ap (λ (t : Bool). assigned c b r && t) (e r)))
