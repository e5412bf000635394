-- How an accepted event moves the badge that it names, and a call what a guard keeps.
use Rattle.std.proofs.Common.{◌≡◌, ℕ, ◌<◌, ◌≤◌, true, false, cond, eqb, List, length, get_or, set, None, sym, ap, ◌∙◌, ⊎_elim}
use Rattle.std.proofs.lemmas.List.{get_or-set_same, get_or-set_other, get_or_default}
use Rattle.std.proofs.lemmas.Bool.{cases_Bool, cond-true, cond-false, eqb-true, eqb-false}
use Rattle.sealing.specs.Ground.{Ground}
use Rattle.calls.specs.declared.badge.Badge.{Badge}
use Rattle.calls.specs.declared.call.Event.{Event}
use Rattle.calls.specs.Kept.{standing_of}
use Rattle.calls.specs.Standing.{moved_within, most_roles}
use Rattle.history.specs.Following.{settled_by, settled}
use Rattle.history.specs.Laws.{call}
use Rattle.history.specs.Refusals.{refusal}
use Rattle.history.proofs.Reasons.{accepted_moves}
use Rattle.guard.specs.Kept.{absent}

-- badge n of the list becomes k, which is what the accepted event makes of it
pub one_moves : (g : Ground) (xs : List Badge) (n : ℕ) (e : Event) (d k : Badge)
    → length g.content.roles ≤ most_roles → n < length xs
    → None ≡ refusal g (standing_of (get_or xs n absent)) (call n e)
    → standing_of k ≡ moved_within e (standing_of (get_or xs n d))
    → (b : ℕ) → standing_of (get_or (set xs n k) b absent) ≡ cond (eqb n b) (settled g (standing_of (get_or xs b absent)) (call n e)) (standing_of (get_or xs b absent))
one_moves g xs n e d k few l fine step b =
    ⊎_elim
    (λ (same : eqb n b ≡ true).
    let eq : n ≡ b = eqb-true n b same in
    let st = standing_of (get_or xs n absent) in
    ap (λ i. standing_of (get_or (set xs n k) i absent)) (sym eq)
    ∙ ap standing_of (get_or-set_same xs n k absent l)
    ∙ step
    ∙ ap (λ x. moved_within e (standing_of x)) (get_or_default xs n d absent l)
    ∙ accepted_moves g st (call n e) (sym fine) few
    ∙ ap (λ o. settled_by o e st) fine
    ∙ ap (λ i. settled g (standing_of (get_or xs i absent)) (call n e)) eq
    ∙ sym (cond-true (eqb n b) _ _ same))
    (λ (other : eqb n b ≡ false).
    ap standing_of (get_or-set_other xs n b k absent (λ q. eqb-false n b other (sym q)))
    ∙ sym (cond-false (eqb n b) _ _ other))
    (cases_Bool (eqb n b))
