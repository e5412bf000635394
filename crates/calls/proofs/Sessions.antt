-- What another session in place of one of a badge's changes of how the badge stands.
use Rattle.std.proofs.Common.{◌≡◌, ℕ, ◌<◌, ◌≤◌, Bool, true, false, cond, not, ◌&&◌, ◌||◌, eqb, ltb, List, length, get_or, set, sym, refl, ap, ◌∙◌, subst, ⊎_elim}
use Rattle.std.proofs.lemmas.List.{get_or-set_same, get_or-set_other}
use Rattle.std.proofs.lemmas.Bool.{cases_eq, cases_lt, eq-eqb, ne_eqb, lt-ltb}
use Rattle.calls.specs.declared.badge.Session.{Session}
use Rattle.calls.specs.declared.badge.Badge.{Badge}
use Rattle.calls.specs.declared.call.Event.{Event}
use Rattle.calls.specs.declared.call.Event.TheVariants.{Activate, Drop}
use Rattle.calls.specs.Kept.{standing_of, track_position, track_misses, shut, holds, ChangedAt}
use Rattle.calls.specs.Standing.{Standing, moved_within, session_count, most_roles}
use Rattle.calls.proofs.Standings.{same_standing}

-- the badge with another session i
abbrev with_session : Badge → ℕ → Session → Badge
with_session k i new = record { track = k.track; sessions = set k.sessions i new }

-- what holds of the new session and of the others holds of each
each : (P : ℕ → Session → Type 0) (xs : List Session) (i : ℕ) (new : Session) → i < length xs → P i new → ((t : ℕ) → (t ≡ i → ⊥) → P t (get_or xs t shut)) → (t : ℕ) → P t (get_or (set xs i new) t shut)
each P xs i new l here rest t =
    ⊎_elim
    (λ (e : t ≡ i). subst (λ n. P n (get_or (set xs i new) n shut)) (sym e) (subst (P i) (sym (get_or-set_same xs i new shut l)) here))
    (λ (ne : t ≡ i → ⊥). subst (P t) (sym (get_or-set_other xs i t new shut ne)) (rest t ne))
    (cases_eq t i)

-- the badge stands as st, if session i does and the others did
stands : (k : Badge) (i : ℕ) (new : Session) (st : Standing) → i < length k.sessions
    → track_position k.track ≡ st.position → track_misses k.track ≡ st.misses
    → new.opened ≡ st.opened i → ((t : ℕ) → (t ≡ i → ⊥) → (standing_of k).opened t ≡ st.opened t)
    → ((q : ℕ) → holds new q ≡ st.active i q) → ((t : ℕ) → (t ≡ i → ⊥) → (q : ℕ) → (standing_of k).active t q ≡ st.active t q)
    → standing_of (with_session k i new) ≡ st
stands k i new st l p m o oo a aa =
    same_standing _ _ p m (each (λ t s. s.opened ≡ st.opened t) k.sessions i new l o oo) (each (λ t s. (q : ℕ) → holds s q ≡ st.active t q) k.sessions i new l a aa)

-- the standing with role r of session i on or off
abbrev turned : Bool → ℕ → ℕ → Standing → Standing
turned on i r st = record { position = st.position; misses = st.misses; opened = st.opened; active = λ t q. cond (eqb i t && eqb r q) on (st.active t q) }

-- equality of numbers, the other way round
flip : (q r : ℕ) → eqb q r ≡ eqb r q
flip q r = ⊎_elim (λ (e : q ≡ r). eq-eqb q r e ∙ sym (eq-eqb r q (sym e))) (λ (ne : q ≡ r → ⊥). ne_eqb q r ne ∙ sym (ne_eqb r q (λ e. ne (sym e)))) (cases_eq q r)

-- to put in is to choose true
or_on : (a b : Bool) → (a || b) ≡ cond b true a
or_on true true = refl
or_on true false = refl
or_on false true = refl
or_on false false = refl

-- to take out is to choose false
and_off : (a b : Bool) → (a && not b) ≡ cond b false a
and_off true true = refl
and_off true false = refl
and_off false true = refl
and_off false false = refl

-- a role of a session is made active or inactive
turns : (on : Bool) (k : Badge) (i r : ℕ) (new : Session) → i < length k.sessions → i < session_count → new.opened ≡ (standing_of k).opened i → ((q : ℕ) → holds new q ≡ cond (ltb r most_roles && eqb q r) on ((standing_of k).active i q)) → standing_of (with_session k i new) ≡ cond (ltb i session_count && ltb r most_roles) (turned on i r (standing_of k)) (standing_of k)
turns on k i r new l w o a =
    by (ltb r most_roles) a ∙ sym (ap (λ b. cond (b && ltb r most_roles) (turned on i r (standing_of k)) (standing_of k)) (lt-ltb i session_count w))
  where
    here : (b : Bool) (q : ℕ) → cond (eqb q r) on b ≡ cond (eqb i i && eqb r q) on b
    here b q = ap (λ e. cond e on b) (flip q r) ∙ sym (ap (λ e. cond (e && eqb r q) on b) (eq-eqb i i refl))

    by : (b : Bool) → ((q : ℕ) → holds new q ≡ cond (b && eqb q r) on ((standing_of k).active i q)) → standing_of (with_session k i new) ≡ cond b (turned on i r (standing_of k)) (standing_of k)
    by true h =
        stands k i new (turned on i r (standing_of k)) l refl refl o (λ t ne. refl) (λ q. h q ∙ here _ q)
        (λ t ne q. sym (ap (λ e. cond (e && eqb r q) on ((standing_of k).active t q)) (ne_eqb i t (λ e. ne (sym e)))))
    by false h = stands k i new (standing_of k) l refl refl o (λ t ne. refl) h (λ t ne q. refl)

-- a role of a session is made active
pub activates : (k : Badge) (i r : ℕ) (new : Session) → i < length k.sessions → i < session_count → new.opened ≡ (standing_of k).opened i → ((q : ℕ) → holds new q ≡ ((standing_of k).active i q || (ltb r most_roles && eqb q r))) → standing_of (with_session k i new) ≡ moved_within (Activate i r) (standing_of k)
activates k i r new l w o a = turns true k i r new l w o (λ q. a q ∙ or_on ((standing_of k).active i q) (ltb r most_roles && eqb q r))

-- a role of a session is made inactive
pub releases : (k : Badge) (i r : ℕ) (new : Session) → i < length k.sessions → i < session_count → new.opened ≡ (standing_of k).opened i → ((q : ℕ) → holds new q ≡ ((standing_of k).active i q && not (ltb r most_roles && eqb q r))) → standing_of (with_session k i new) ≡ moved_within (Drop i r) (standing_of k)
releases k i r new l w o a = turns false k i r new l w o (λ q. a q ∙ and_off ((standing_of k).active i q) (ltb r most_roles && eqb q r))

-- where a session changed by a relation, all that it allows comes to what the event comes to, and past the sessions the
-- event changes nothing, the badge stands as after the event
pub changed : (k k' : Badge) (i : ℕ) (e : Event) (R : Session → Session → Type 0) → k'.track ≡ k.track → ChangedAt i R k.sessions k'.sessions
    → (i < length k.sessions → (new : Session) → R (get_or k.sessions i shut) new → standing_of (with_session k i new) ≡ moved_within e (standing_of k))
    → (length k.sessions ≤ i → standing_of k ≡ moved_within e (standing_of k))
    → standing_of k' ≡ moved_within e (standing_of k)
changed k k' i e R t c there past =
    ⊎_elim
    (λ (l : i < length k.sessions). let new = c.there l in ap standing_of (same_badge k k' _ t new.2) ∙ there l new.0 new.1)
    (λ (p : length k.sessions ≤ i). ap standing_of (same_badge k k' _ t (c.past p)) ∙ past p)
    (cases_lt i (length k.sessions))
  where
    same_badge : (k k' : Badge) (xs : List Session) → k'.track ≡ k.track → k'.sessions ≡ xs → k' ≡ record { track = k.track; sessions = xs }
    same_badge k k' xs t s = λ j. record { track = t j; sessions = s j }
