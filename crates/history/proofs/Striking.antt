-- Calls that name other badges do not matter to a badge.
use Rattle.std.proofs.Common.{◌≡◌, ℕ, true, false, cond, eqb, List, [], ◌∷◌, Some, None, Option, sym, refl, ap, ◌∙◌, ⊎_elim}
use Rattle.std.proofs.lemmas.Bool.{cases_Bool, eqb-true, cond-true, cond-false}
use Rattle.sealing.specs.Ground.{Ground}
use Rattle.calls.specs.declared.call.Call.{Call}
use Rattle.calls.specs.declared.refusal.Refusal.{Refusal}
use Rattle.calls.specs.Standing.{moved}
use Rattle.history.specs.Refusals.{refusal}
use Rattle.history.specs.Replies.{reply}
use Rattle.history.specs.History.{standing, kept_if, accepted, answer, answers_after}
use Rattle.history.specs.Laws.{only, Struck, answers_to, StruckRuns}
use Rattle.history.proofs.Steps.{other, own}

-- accepted calls of other badges do not matter
pub standing_only : (b : ℕ) (calls : List Call) → standing (only b calls) b ≡ standing calls b
standing_only b [] = refl
standing_only b (c ∷ calls) =
    let rest = standing_only b calls in
    ⊎_elim
    (λ (e : eqb c.badge b ≡ true). ap (λ kept. standing kept b) (cond-true _ _ _ e) ∙ own b c (only b calls) e ∙ ap (moved c.event) rest ∙ sym (own b c calls e))
    (λ (e : eqb c.badge b ≡ false). ap (λ kept. standing kept b) (cond-false _ _ _ e) ∙ rest ∙ sym (other b c calls e))
    (cases_Bool (eqb c.badge b))

kept_only : (b : ℕ) (o : Option Refusal) (c : Call) (calls : List Call) → eqb c.badge b ≡ true → kept_if o c (only b calls) ≡ only b (kept_if o c calls)
kept_only b None c calls e = rw e
kept_only b (Some n) c calls e = refl

struck_only : (b : ℕ) (o : Option Refusal) (c : Call) (calls : List Call) → eqb c.badge b ≡ false → only b calls ≡ only b (kept_if o c calls)
struck_only b None c calls e = rw e
struck_only b (Some n) c calls e = refl

module _ (g : Ground) where
  -- the same calls of a badge are accepted
  pub accepted_only : (b : ℕ) (calls : List Call) → accepted g (only b calls) ≡ only b (accepted g calls)
  accepted_only b [] = refl
  accepted_only b (c ∷ calls) =
      let before = accepted g calls in
      let ih = accepted_only b calls in
      ⊎_elim
      (λ e.
      let same : standing (only b before) c.badge ≡ standing before c.badge =
      ap (λ d. standing (only d before) c.badge) (sym (eqb-true c.badge b e)) ∙ standing_only c.badge before in
      rw e
      (ap (λ a. kept_if (refusal g (standing a c.badge) c) c a) ih
      ∙ ap (λ st. kept_if (refusal g st c) c (only b before)) same
      ∙ kept_only b _ c before e))
      (λ e. rw e (ih ∙ struck_only b _ c before e))
      (cases_Bool (eqb c.badge b))

-- one answer
pub struck : Struck
struck g calls c =
    ap (λ st. reply g st c) (ap (λ a. standing a c.badge) (accepted_only g c.badge calls) ∙ standing_only c.badge (accepted g calls))

struck_from : (g : Ground) (b : ℕ) (past calls : List Call) → answers_after g (only b past) (only b calls) ≡ answers_to g b past calls
struck_from g b past [] = refl
struck_from g b past (c ∷ calls) =
    ⊎_elim
    (λ (e : eqb c.badge b ≡ true).
    let rest = struck_from g b (c ∷ past) calls in
    rw e
    (ap (λ d. answer g (only d past) c ∷ answers_after g (c ∷ only b past) (only b calls)) (sym (eqb-true c.badge b e))
    ∙ ap (λ a. a ∷ answers_after g (c ∷ only b past) (only b calls)) (struck g past c)
    ∙ ap (λ t. answer g past c ∷ answers_after g (cond t (c ∷ only b past) (only b past)) (only b calls)) (sym e)
    ∙ ap (λ told. answer g past c ∷ told) rest))
    (λ (e : eqb c.badge b ≡ false).
    let rest = struck_from g b (c ∷ past) calls in
    rw e (ap (λ t. answers_after g (cond t (c ∷ only b past) (only b past)) (only b calls)) (sym e) ∙ rest))
    (cases_Bool (eqb c.badge b))

-- the answers of a run
pub struck_runs : StruckRuns
struck_runs g b calls = struck_from g b [] calls
