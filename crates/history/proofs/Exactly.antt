-- Asking grants exactly by the lowest-numbered active enabled role that has the right.
use Rattle.std.proofs.Common.{◌≡◌, ℕ, ◌<◌, Bool, true, false, cond, ◌&&◌, ◌||◌, eqb, ltb, List, [], ◌∷◌, length, Some, None, Ok, Option, sym, refl, ap, ◌∙◌, subst, ⊎_elim, arith}
use Rattle.std.proofs.lemmas.Bool.{cases_Bool, and_parts, and_from, le-ltb, ltb-true, eqb-true, or_from, false≢true}
use Rattle.sets.specs.Bounds.{lowest}
use Rattle.sets.proofs.Bounds.{lowest_passes}
use Rattle.policy.specs.Contents.{role_at, role_permits, schema_permits}
use Rattle.rights.specs.Rights.{has_right}
use Rattle.rights.proofs.Lending.{right_means}
use Rattle.sealing.specs.Ground.{Ground, ground_of}
use Rattle.calls.specs.declared.call.Call.{Call}
use Rattle.calls.specs.declared.call.Event.{Event}
use Rattle.calls.specs.declared.call.Event.TheVariants.{Report, Miss, Open, Close, Activate, Drop, Where, Enabled, Roles, Ask}
use Rattle.calls.specs.Answers.{Answer}
use Rattle.calls.specs.declared.call.Reply.TheVariants.{Granted}
use Rattle.calls.specs.declared.refusal.Refusal.{Refusal}
use Rattle.calls.specs.Standing.{Standing, session_count, moved}
use Rattle.history.specs.Questions.{is_enabled, may, serves, grants}
use Rattle.history.specs.Refusals.{refusal}
use Rattle.history.specs.Replies.{refused_or, granted_by}
use Rattle.history.specs.History.{standing, kept_if, accepted, after}
use Rattle.history.specs.Laws.{ClosedEmpty, call, Serves, Exactly, GrantsExactly}
use Rattle.history.proofs.Steps.{own, other}
use Rattle.history.proofs.Reasons.{past_role}
use Rattle.history.proofs.Activity.{active_means}
use Rattle.history.proofs.Lowest.{lowest_first, lowest_is}
use Rattle.history.proofs.Asking.{granted_reply}

-- where a role is active, badge, session and role are known and the session is open
record Live (g : Ground) (b s r : ℕ) (st : Standing) : Type 0 where
  badge : b < g.content.badges
  session : s < session_count
  role : r < length g.content.roles
  opened : st.opened s ≡ true

abbrev AllLive : Ground → ℕ → Standing → Type 0
AllLive g b st = (s r : ℕ) → st.active s r ≡ true → Live g b s r st

module _ (g : Ground) (b : ℕ) (st : Standing) (live : AllLive g b st) where
  still : (s r : ℕ) (st' : Standing) → st.active s r ≡ true → st'.opened s ≡ st.opened s → Live g b s r st'
  still s r st' h same = let l = live s r h in record { badge = l.badge; session = l.session; role = l.role; opened = same ∙ l.opened }

  live_moved : (e : Event) → refusal g st (call b e) ≡ None → AllLive g b (moved e st)
  live_moved (Report p) fine s r h = still s r _ h refl
  live_moved Miss fine s r h = still s r _ h refl
  live_moved (Open t) fine s r h =
      let l = live s r h in
      record {
        badge = l.badge;
        session = l.session;
        role = l.role;
        opened = elim (eqb t s) as (λ c. cond c true (st.opened s) ≡ true) [ true ↦ refl | false ↦ l.opened ];
      }
  live_moved (Close t) fine s r h =
      ⊎_elim
      (λ (e : eqb t s ≡ true). absurd (false≢true (rw e at h)))
      (λ (e : eqb t s ≡ false). still s r _ (rw e at h) (rw e))
      (cases_Bool (eqb t s))
  live_moved (Activate t q) fine s r h =
      ⊎_elim
      (λ (e : (eqb t s && eqb q r) ≡ true).
      let both = and_parts (eqb t s) (eqb q r) e in
      let same : t ≡ s = eqb-true t s both.0 in
      let as_role : q ≡ r = eqb-true q r both.1 in
      let at = past_role g st b t q _ _ _ _ _ fine in
      record { badge = at.0; session = omega (arith, at.1); role = omega (arith, at.3); opened = ap st.opened (sym same) ∙ at.2 })
      (λ (e : (eqb t s && eqb q r) ≡ false). still s r _ (rw e at h) refl)
      (cases_Bool (eqb t s && eqb q r))
  live_moved (Drop t q) fine s r h =
      ⊎_elim
      (λ (e : (eqb t s && eqb q r) ≡ true). absurd (false≢true (rw e at h)))
      (λ (e : (eqb t s && eqb q r) ≡ false). still s r _ (rw e at h) refl)
      (cases_Bool (eqb t s && eqb q r))
  live_moved (Where q) fine s r h = live s r h
  live_moved (Enabled q) fine s r h = live s r h
  live_moved (Roles t) fine s r h = live s r h
  live_moved (Ask t operation object) fine s r h = live s r h

module _ (g : Ground) (b : ℕ) where
  live_kept : (c : Call) (before : List Call) (o : Option Refusal) → refusal g (standing before c.badge) c ≡ o → AllLive g b (standing before b) → AllLive g b (standing (kept_if o c before) b)
  live_kept c before (Some n) e live = live
  live_kept c before None e live =
      ⊎_elim
      (λ (q : eqb c.badge b ≡ true).
      let same : c.badge ≡ b = eqb-true _ _ q in
      let fine : refusal g (standing before b) (call b c.event) ≡ None = ap (λ d. refusal g (standing before d) (call d c.event)) (sym same) ∙ e in
      subst (AllLive g b) (sym (own b c before q)) (live_moved g b (standing before b) live c.event fine))
      (λ (q : eqb c.badge b ≡ false). subst (AllLive g b) (sym (other b c before q)) live)
      (cases_Bool (eqb c.badge b))

  live_after : (calls : List Call) → AllLive g b (after g calls b)
  live_after [] s r h = absurd (false≢true h)
  live_after (c ∷ calls) s r h = live_kept c (accepted g calls) _ refl (live_after calls) s r h

-- no role is active in a session that is not open
pub closed_empty : ClosedEmpty
closed_empty g calls b s r shut =
    ⊎_elim
    (λ (h : (after g calls b).active s r ≡ true). absurd (false≢true (sym shut ∙ (live_after g b calls s r h).opened)))
    (λ (h : (after g calls b).active s r ≡ false). h)
    (cases_Bool ((after g calls b).active s r))

refused_not : (o : Option Refusal) (a : Answer) (r : ℕ) → refused_or o a ≡ Ok (Granted r) → a ≡ Ok (Granted r)
refused_not None a r e = e
refused_not (Some n) a r e = let z : ◌≡◌ {A = ℕ} 0 1 = cc in absurd (omega arith)

granted_some : (o : Option ℕ) (r : ℕ) → granted_by o ≡ Ok (Granted r) → o ≡ Some r
granted_some None r e = let z : ◌≡◌ {A = ℕ} 0 1 = cc in absurd (omega arith)
granted_some (Some k) r e = cc

-- what some role may do is a right that there can be
right_within : (g : Ground) (r operation object : ℕ) → may g operation object r ≡ true → (ltb 15 operation || ltb 255 object) ≡ false
right_within g r operation object h =
    let c = g.content in
    let both = and_parts (ltb operation 16) (has_right g.above c r operation object) h in
    let found = (right_means g.above c r operation object).0 both.1 in
    let a = found.0 in
    let outer = and_parts (ltb a (length c.roles) && (ltb operation 256 && ltb object 256)) (role_permits c a operation object || schema_permits c (role_at c a).schema operation object) found.3 in
    let inner = and_parts (ltb a (length c.roles)) (ltb operation 256 && ltb object 256) outer.0 in
    let sides = and_parts (ltb operation 256) (ltb object 256) inner.1 in
    or_from _ _ (le-ltb 15 operation (omega (arith, ltb-true _ _ both.0))) (le-ltb 255 object (omega (arith, ltb-true _ _ sides.1)))

module _ (g : Ground) (calls : List Call) (b s operation object : ℕ) where
  here : Standing
  here = after g calls b

  test : ℕ → Bool
  unfolding here
  test = grants g here s operation object

  passes : (r : ℕ) → test r ≡ true → Serves g calls b s operation object r
  unfolding here test
  passes r h =
      let outer = and_parts (serves g here s operation object r) (is_enabled g here r) h in
      let inner = and_parts (here.active s r) (may g operation object r) outer.0 in
      record { active = (active_means g calls b s r).0 inner.0; enabled = outer.1; entitles = inner.1 }

  does_pass : (r : ℕ) → Serves g calls b s operation object r → test r ≡ true
  unfolding here test
  does_pass r v = and_from _ _ (and_from _ _ ((active_means g calls b s r).1 v.active) v.entitles) v.enabled

  -- over any ground
  pub exactly : (r : ℕ) → Exactly g calls b s operation object r
  unfolding here test
  exactly r = record {
    only_if = λ e.
        let found : lowest (length g.content.roles) test ≡ Some r = granted_some _ r (refused_not (refusal g here (call b (Ask s operation object))) _ r e) in
        let at = lowest_passes test (length g.content.roles) r found in
        record {
          serves = passes r at.0;
          lowest = λ q lt v. absurd (false≢true (sym (lowest_first test (length g.content.roles) r found q lt) ∙ does_pass q v));
        };
    when = λ v.
        let l = live_after g b calls s r ((active_means g calls b s r).1 v.serves.active) in
        let lower : (q : ℕ) → q < r → test q ≡ false =
        λ q lt. ⊎_elim (λ (h : test q ≡ true). absurd (v.lowest q lt (passes q h))) (λ (h : test q ≡ false). h) (cases_Bool (test q)) in
        granted_reply g here b s operation object r l.badge l.session l.opened (right_within g r operation object v.serves.entitles)
        (lowest_is test (length g.content.roles) r l.role (does_pass r v.serves) lower);
  }

pub grants_exactly : GrantsExactly
grants_exactly h c calls b s operation object r = exactly (ground_of h c) calls b s operation object r
