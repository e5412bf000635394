-- How one call more keeps what is kept of each badge in agreement with the calls.
use Rattle.std.proofs.Common.{◌≡◌, ℕ, Bool, true, false, cond, eqb, List, ◌∷◌, Some, None, Err, Option, sym, refl, ap, ◌∙◌, ⊎_elim}
use Rattle.std.proofs.lemmas.Bool.{cases_Bool, eqb-true, cond-true, cond-false, cond_both}
use Rattle.sealing.specs.Ground.{Ground}
use Rattle.calls.specs.declared.call.Call.{Call}
use Rattle.calls.specs.declared.refusal.Refusal.{Refusal}
use Rattle.calls.specs.Standing.{Standing, moved}
use Rattle.history.specs.Refusals.{refusal}
use Rattle.history.specs.Replies.{refused_or, outcome, reply}
use Rattle.history.specs.History.{standing, kept_if, accepted, after}
use Rattle.history.specs.Following.{settled_by, settled, Follows}
use Rattle.history.proofs.Steps.{other, own}

kept_own : (o : Option Refusal) (b : ℕ) (c : Call) (calls : List Call) → eqb c.badge b ≡ true → standing (kept_if o c calls) b ≡ settled_by o c.event (standing calls b)
kept_own None b c calls e = own b c calls e
kept_own (Some n) b c calls e = refl

kept_other : (o : Option Refusal) (b : ℕ) (c : Call) (calls : List Call) → eqb c.badge b ≡ false → standing (kept_if o c calls) b ≡ standing calls b
kept_other None b c calls e = other b c calls e
kept_other (Some n) b c calls e = refl

module _ (g : Ground) where
  -- how a badge stands after one call more
  pub after_one : (calls : List Call) (c : Call) (b : ℕ) → after g (c ∷ calls) b ≡ cond (eqb c.badge b) (settled g (after g calls b) c) (after g calls b)
  after_one calls c b =
      let before = accepted g calls in
      ⊎_elim
      (λ (e : eqb c.badge b ≡ true).
      kept_own (refusal g (standing before c.badge) c) b c before e
      ∙ ap (λ d. settled_by (refusal g (standing before d) c) c.event (standing before b)) (eqb-true _ _ e)
      ∙ sym (cond-true _ _ _ e))
      (λ (e : eqb c.badge b ≡ false). kept_other (refusal g (standing before c.badge) c) b c before e ∙ sym (cond-false _ _ _ e))
      (cases_Bool (eqb c.badge b))

  module _ (kept kept' : ℕ → Standing) (c : Call) where
    -- a call, accepted or not, settles what is kept of its badge
    pub one_step : ((b : ℕ) → kept' b ≡ cond (eqb c.badge b) (settled g (kept b) c) (kept b)) → Follows g kept kept' c (reply g (kept c.badge) c)
    one_step step calls ok = (
      ap (λ st. reply g st c) (ok c.badge),
      λ b. step b ∙ ap (λ st. cond (eqb c.badge b) (settled g st c) st) (ok b) ∙ sym (after_one calls c b),
    )

    -- what is settled of the call's badge, by whether the call is refused
    settles : (o : Option Refusal) → refusal g (kept c.badge) c ≡ o → (b : ℕ) → cond (eqb c.badge b) (settled_by o c.event (kept b)) (kept b) ≡ cond (eqb c.badge b) (settled g (kept b) c) (kept b)
    settles o holds b =
        ⊎_elim
        (λ (e : eqb c.badge b ≡ true).
        ap (λ p. cond (eqb c.badge b) (settled_by p c.event (kept b)) (kept b)) (sym holds ∙ ap (λ d. refusal g (kept d) c) (eqb-true _ _ e)))
        (λ (e : eqb c.badge b ≡ false). cond-false _ _ _ e ∙ sym (cond-false _ _ _ e))
        (cases_Bool (eqb c.badge b))

    -- a refused call changes nothing
    pub refused : (n : Refusal) → refusal g (kept c.badge) c ≡ Some n → ((b : ℕ) → kept' b ≡ kept b) → Follows g kept kept' c (Err n)
    refused n holds same calls ok =
        let step = one_step (λ b. same b ∙ sym (cond_same (eqb c.badge b) (kept b)) ∙ settles (Some n) holds b) calls ok in
        (sym (ap (λ o. refused_or o (outcome g (kept c.badge) c.event)) holds) ∙ step.0, step.1)
      where
        cond_same : (t : Bool) (st : Standing) → cond t st st ≡ st
        cond_same true st = refl
        cond_same false st = refl

    -- an accepted call moves what is kept of its badge
    pub moves : refusal g (kept c.badge) c ≡ None → ((b : ℕ) → kept' b ≡ cond (eqb c.badge b) (moved c.event (kept b)) (kept b)) → Follows g kept kept' c (outcome g (kept c.badge) c.event)
    moves fine put calls ok =
        let step = one_step (λ b. put b ∙ settles None fine b) calls ok in
        (sym (ap (λ o. refused_or o (outcome g (kept c.badge) c.event)) fine) ∙ step.0, step.1)

  -- a question changes nothing
  pub asks : (kept : ℕ → Standing) (c : Call) → ((st : Standing) → moved c.event st ≡ st) → Follows g kept kept c (reply g (kept c.badge) c)
  asks kept c still = one_step kept kept c (λ b. sym (cond_both (eqb c.badge b) (settled g (kept b) c) (kept b) (λ st. st ≡ kept b) (λ _. unmoved (refusal g (kept b) c) (kept b)) (λ _. refl)))
    where
      unmoved : (o : Option Refusal) (st : Standing) → settled_by o c.event st ≡ st
      unmoved None st = still st
      unmoved (Some n) st = refl
