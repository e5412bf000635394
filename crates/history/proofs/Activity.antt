-- A role is active exactly when its activation was accepted and nothing accepted since ended it.
use Rattle.std.proofs.Common.{◌≡◌, ℕ, true, false, ◌&&◌, eqb, List, [], ◌∷◌, ◌++◌, sym, refl, ap, ◌∙◌, ⊎_elim}
use Rattle.std.proofs.lemmas.Bool.{cases_Bool, and_parts, and_from, and_left, and_right, eqb-true, eq-eqb, false≢true, true≢false}
use Rattle.calls.specs.declared.call.Call.{Call}
use Rattle.calls.specs.declared.call.Event.{Event}
use Rattle.calls.specs.declared.call.Event.TheVariants.{Report, Miss, Open, Close, Activate, Drop, Where, Enabled, Roles, Ask}
use Rattle.calls.specs.Standing.{Standing, moved}
use Rattle.history.specs.History.{is_active, standing, accepted}
use Rattle.history.specs.Laws.{call, ends, NoneEnds, ActiveBy, ActiveMeans}
use Rattle.history.proofs.Steps.{other, own}

-- what an event does to role r in session s: it activates the role there, or ends it, or leaves it as it is
data Told (st : Standing) (s r : ℕ) (e : Event) : Type 0 where
  on : (moved e st).active s r ≡ true → e ≡ Activate s r → Told st s r e
  off : (moved e st).active s r ≡ false → ends s r e ≡ true → Told st s r e
  silent : (moved e st).active s r ≡ st.active s r → ends s r e ≡ false → Told st s r e

module _ (st : Standing) (s r : ℕ) where
  told : (e : Event) → Told st s r e
  told (Report p) = silent refl refl
  told Miss = silent refl refl
  told (Open t) = silent refl refl
  told (Close t) =
      ⊎_elim
      (λ (e : eqb t s ≡ true). off (rw e) e)
      (λ (e : eqb t s ≡ false). silent (rw e) e)
      (cases_Bool (eqb t s))
  told (Activate t q) =
      ⊎_elim
      (λ (e : (eqb t s && eqb q r) ≡ true).
      let both = and_parts (eqb t s) (eqb q r) e in
      on (rw e) (ap (λ k. Activate k q) (eqb-true t s both.0) ∙ ap (Activate s) (eqb-true q r both.1)))
      (λ (e : (eqb t s && eqb q r) ≡ false). silent (rw e) refl)
      (cases_Bool (eqb t s && eqb q r))
  told (Drop t q) =
      ⊎_elim
      (λ (e : (eqb t s && eqb q r) ≡ true). off (rw e) e)
      (λ (e : (eqb t s && eqb q r) ≡ false). silent (rw e) e)
      (cases_Bool (eqb t s && eqb q r))
  told (Where q) = silent refl refl
  told (Enabled q) = silent refl refl
  told (Roles t) = silent refl refl
  told (Ask t operation object) = silent refl refl

module _ (b s r : ℕ) where
  -- one accepted call more, of another badge or of this one
  skip : (c : Call) (calls : List Call) → eqb c.badge b ≡ false → is_active (c ∷ calls) b s r ≡ is_active calls b s r
  skip c calls e = ap (λ st. st.active s r) (other b c calls e)

  take : (c : Call) (calls : List Call) → eqb c.badge b ≡ true → is_active (c ∷ calls) b s r ≡ (moved c.event (standing calls b)).active s r
  take c calls e = ap (λ st. st.active s r) (own b c calls e)

  -- a call that does not end the role
  longer : (c : Call) (calls : List Call) → (eqb c.badge b && ends s r c.event) ≡ false → ActiveBy calls b s r → ActiveBy (c ∷ calls) b s r
  longer c calls n v = record { later = c ∷ v.later; earlier = v.earlier; activated = ap (λ rest. c ∷ rest) v.activated; lasts = (n, v.lasts) }

  named : (c : Call) → eqb c.badge b ≡ true → c.event ≡ Activate s r → c ≡ call b (Activate s r)
  named c e a = ap (λ d. call d c.event) (eqb-true c.badge b e) ∙ ap (call b) a

  -- an active role was activated, and not ended since
  pub activated_by : (calls : List Call) → is_active calls b s r ≡ true → ActiveBy calls b s r
  activated_by [] h = absurd (false≢true h)
  activated_by (c ∷ calls) h =
      let before = activated_by calls in
      ⊎_elim
      (λ (e : eqb c.badge b ≡ true).
      elim (told (standing calls b) s r c.event) [
        | on n a ↦ record { later = []; earlier = calls; activated = ap (λ d. d ∷ calls) (named c e a); lasts = tt }
        | off n i ↦ absurd (false≢true (sym (take c calls e ∙ n) ∙ h))
        | silent n i ↦ longer c calls (and_right _ _ i) (before (sym (take c calls e ∙ n) ∙ h))
      ])
      (λ (e : eqb c.badge b ≡ false). longer c calls (and_left _ _ e) (before (sym (skip c calls e) ∙ h)))
      (cases_Bool (eqb c.badge b))

  -- and such a role is active
  pub still_active : (later earlier : List Call) → NoneEnds b s r later → is_active (later ++ call b (Activate s r) ∷ earlier) b s r ≡ true
  still_active [] earlier lasts =
      let here : (eqb s s && eqb r r) ≡ true = and_from _ _ (eq-eqb s s refl) (eq-eqb r r refl) in
      take (call b (Activate s r)) earlier (eq-eqb b b refl) ∙ rw here
  still_active (c ∷ later) earlier lasts =
      let calls = later ++ call b (Activate s r) ∷ earlier in
      let before = still_active later earlier lasts.1 in
      ⊎_elim
      (λ (e : eqb c.badge b ≡ true).
      elim (told (standing calls b) s r c.event) [
        | on n a ↦ take c calls e ∙ n
        | off n i ↦ absurd (true≢false (sym (and_from _ _ e i) ∙ lasts.0))
        | silent n i ↦ take c calls e ∙ n ∙ before
      ])
      (λ (e : eqb c.badge b ≡ false). skip c calls e ∙ before)
      (cases_Bool (eqb c.badge b))

pub active_means : ActiveMeans
active_means g calls b s r = (
  activated_by b s r (accepted g calls),
  λ v. ap (λ past. is_active past b s r) v.activated ∙ still_active b s r v.later v.earlier v.lasts,
)
