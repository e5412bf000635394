-- What holds of a call against which no reason holds.
use Rattle.std.proofs.Common.{◌≡◌, ℕ, ◌<◌, ◌≤◌, Bool, true, false, cond, not, leb, length, Some, None, Option, refl, ap, arith}
use Rattle.std.proofs.lemmas.Bool.{leb-false, lt-ltb, not-false, and_from}
use Rattle.sealing.specs.Ground.{Ground}
use Rattle.calls.specs.declared.call.Call.{Call}
use Rattle.calls.specs.declared.call.Event.{Event}
use Rattle.calls.specs.declared.call.Event.TheVariants.{Report, Miss, Open, Close, Activate, Drop, Where, Enabled, Roles, Ask}
use Rattle.calls.specs.declared.refusal.Refusal.{Refusal}
use Rattle.calls.specs.Standing.{Standing, session_count, most_roles, in_range, moved, moved_within}
use Rattle.history.specs.Refusals.{refusal, reasons, first_reason}

-- where no reason holds, the first does not, nor any further one
pub none_holds : (t : Bool) (n : Refusal) (o : Option Refusal) → cond t (Some n) o ≡ None → (t ≡ false) × (o ≡ None)
none_holds true n o e = let z : ◌≡◌ {A = ℕ} 0 1 = cc in absurd (omega arith)
none_holds false n o e = (refl, e)

module _ (g : Ground) (st : Standing) where
  -- past the reason against the badge
  pub past_badge : (b : ℕ) (i : Refusal) (o : Option Refusal) → cond (leb g.content.badges b) (Some i) o ≡ None → (b < g.content.badges) × (o ≡ None)
  past_badge b i o h = let at = none_holds (leb g.content.badges b) i o h in (leb-false _ _ at.0, at.1)

  -- and past the one against the session
  pub past_session : (b s : ℕ) (i j : Refusal) (o : Option Refusal) → cond (leb g.content.badges b) (Some i) (cond (leb session_count s) (Some j) o) ≡ None → (s < session_count) × (o ≡ None)
  past_session b s i j o h = let at = none_holds (leb session_count s) j o (past_badge b i _ h).1 in (leb-false _ _ at.0, at.1)

  -- past the reasons against the badge, the session, a session that is not open, and the role
  pub past_role : (b s r : ℕ) (i j k l : Refusal) (o : Option Refusal) → cond (leb g.content.badges b) (Some i) (cond (leb session_count s) (Some j) (cond (not (st.opened s)) (Some k) (cond (leb (length g.content.roles) r) (Some l) o))) ≡ None → (b < g.content.badges) × (s < session_count) × (st.opened s ≡ true) × (r < length g.content.roles)
  past_role b s r i j k l o h =
      let session = past_session b s i j _ h in
      let opened = none_holds (not (st.opened s)) k _ session.1 in
      ((past_badge b i _ h).0, session.0, not-false _ opened.0, leb-false _ _ (none_holds (leb (length g.content.roles) r) l o opened.1).0)

  known : (b : ℕ) (e : Event) → first_reason (reasons g st b e) ≡ None → b < g.content.badges
  known b (Report p) h = (past_badge b _ _ h).0
  known b Miss h = (past_badge b _ _ h).0
  known b (Open s) h = (past_badge b _ _ h).0
  known b (Close s) h = (past_badge b _ _ h).0
  known b (Activate s r) h = (past_badge b _ _ h).0
  known b (Drop s r) h = (past_badge b _ _ h).0
  known b (Where r) h = (past_badge b _ _ h).0
  known b (Enabled r) h = (past_badge b _ _ h).0
  known b (Roles s) h = (past_badge b _ _ h).0
  known b (Ask s operation object) h = (past_badge b _ _ h).0

  -- an accepted call names a known badge
  pub accepted_known : (c : Call) → refusal g st c ≡ None → c.badge < g.content.badges
  accepted_known c h = known c.badge c.event h

  within : (b : ℕ) (e : Event) → first_reason (reasons g st b e) ≡ None → length g.content.roles ≤ most_roles → in_range e ≡ true
  within b (Report p) h few = refl
  within b Miss h few = refl
  within b (Open s) h few = lt-ltb _ _ (past_session b s _ _ _ h).0
  within b (Close s) h few = lt-ltb _ _ (past_session b s _ _ _ h).0
  within b (Activate s r) h few = let at = past_role b s r _ _ _ _ _ h in and_from _ _ (lt-ltb _ _ at.1) (lt-ltb _ _ (omega (arith, at.3)))
  within b (Drop s r) h few = let at = past_role b s r _ _ _ _ _ h in and_from _ _ (lt-ltb _ _ at.1) (lt-ltb _ _ (omega (arith, at.3)))
  within b (Where r) h few = refl
  within b (Enabled r) h few = refl
  within b (Roles s) h few = refl
  within b (Ask s operation object) h few = refl

  -- an accepted event is in range
  pub accepted_in_range : (c : Call) → refusal g st c ≡ None → length g.content.roles ≤ most_roles → in_range c.event ≡ true
  accepted_in_range c h few = within c.badge c.event h few

  -- so it moves the standing, as any event in range does
  pub accepted_moves : (c : Call) → refusal g st c ≡ None → length g.content.roles ≤ most_roles → moved_within c.event st ≡ moved c.event st
  accepted_moves c h few = ap (λ t. cond t (moved c.event st) st) (accepted_in_range c h few)
