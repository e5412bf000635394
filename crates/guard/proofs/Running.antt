-- Runs of calls from the sealing on.
use Rattle.std.proofs.Common.{◌≡◌, ℕ, ◌+◌, ◌<◌, List, [], ◌∷◌, ◌++◌, length, get_or, take, Ok, Err, Result, sym, refl, ap, ◌∙◌, subst, arith}
use Rattle.std.proofs.lemmas.List.{take_more}
use Rattle.plan.specs.Hall.{Hall}
use Rattle.policy.specs.Contents.{Content, none}
use Rattle.checks.specs.declared.faults.SealFault.{SealFault}
use Rattle.calls.specs.declared.call.Call.{Call}
use Rattle.calls.specs.Answers.{Answer}
use Rattle.sealing.specs.Ground.{Ground, ground_of}
use Rattle.sealing.specs.Outcome.{sealing, sealing_after, sealed_or}
use Rattle.site.specs.declared.site.Site.{Site}
use Rattle.history.specs.History.{answers_after, followed_by}
use Rattle.history.specs.Laws.{only}
use Rattle.history.proofs.Above.{above_from}
use Rattle.history.proofs.Activity.{active_means}
use Rattle.history.proofs.Exactly.{grants_exactly}
use Rattle.history.proofs.Striking.{struck_runs}
use Rattle.sealing.proofs.Enabling.{enabled_up}
use Rattle.history.proofs.Running.{followed_push, answers_push}
use Rattle.guard.specs.declared.guard.Guard.{Guard}
use Rattle.guard.specs.Kept.{ground_in}
use Rattle.guard.specs.Stands.{Stands, Begins, Continues, Performs}
use Rattle.guard.specs.declared.guard.RunFault.{RunFault}
use Rattle.guard.specs.declared.guard.RunFault.TheVariants.{Seal, Memory}
use Rattle.guard.specs.Runs.{Lawful, Replays, Told, answers_over, answers_of, own_over}
use Rattle.guard.proofs.Performed.{continues}

-- no call yet
pub replays_none : {P : Type 0} (h : Hall) (g : Guard P) → Replays h g g [] []
replays_none h g = record { site = refl; goes_on = λ ws c past st. (refl, st) }

-- one call more; m gives the meaning of a plan
pub replays_push : {P : Type 0} (m : P → Hall) (g g₁ g₂ : Guard P) (calls : List Call) (answers : List Answer) (e : Call) (a : Answer)
    → Replays (m g.site.plan) g g₁ calls answers → Performs (m g₁.site.plan) g₁ g₂ e a → Replays (m g.site.plan) g g₂ (calls ++ e ∷ []) (answers ++ a ∷ [])
replays_push {P} m g g₁ g₂ calls answers e a runs done-so =
    let h = m g.site.plan in
    let step : Continues h g₁ g₂ e a = continues h g₁ g₂ e a (subst (λ (s : Site P). Performs (m s.plan) g₁ g₂ e a) runs.site done-so) in
    record {
      site = done-so.site ∙ runs.site;
      goes_on = λ ws c past st.
          let before = runs.goes_on ws c past st in
          let next = step ws c (followed_by past calls) before.1 in (
            ap (λ told. told ++ a ∷ []) before.0 ∙ ap (λ d. answers_after (ground_of h c) past calls ++ d ∷ []) next.0 ∙ sym (answers_push (ground_of h c) past calls e),
            subst (λ cs. Stands h ws c cs g₂) (sym (followed_push past calls e)) next.1,
          );
    }

-- one turn of a loop over the calls
pub replays_more : {P : Type 0} (m : P → Hall) (g g₁ g₂ : Guard P) (calls : List Call) (i : ℕ) (d : Call) (answers told : List Answer) (a : Answer)
    → i < length calls → Replays (m g.site.plan) g g₁ (take i calls) answers → Performs (m g₁.site.plan) g₁ g₂ (get_or calls i d) a
    → told ≡ answers ++ a ∷ [] → Replays (m g.site.plan) g g₂ (take (i + 1) calls) told
replays_more m g g₁ g₂ calls i d answers told a within runs done-so pushed =
    subst (λ cs. Replays (m g.site.plan) g g₂ cs told) (sym (take_more calls i d within))
    (subst (λ xs. Replays (m g.site.plan) g g₂ (take i calls ++ get_or calls i d ∷ []) xs) (sym pushed)
    (replays_push m g g₁ g₂ (take i calls) answers (get_or calls i d) a runs done-so))

struck_over : (h : Hall) (o : Result Content SealFault) (calls : List Call) (b : ℕ) → answers_over h o (only b calls) ≡ own_over h o b calls
struck_over h (Ok c) calls b = ap Ok (struck_runs (ground_of h c) b calls)
struck_over h (Err f) calls b = refl

-- every list of calls after a sealing is lawful
pub lawful : (h : Hall) (ws : List ℕ) → Lawful h ws
lawful h ws = record {
  active = λ c is calls b s r. active_means (ground_of h c) calls b s r;
  grants = λ c is calls b s operation object r. grants_exactly h c calls b s operation object r;
  ancestors = λ c is calls b r a. above_from enabled_up h ws c is calls b r a;
  struck = λ calls b. struck_over h (sealing h ws) calls b;
}

-- want of memory says nothing of the answers
pub told_memory : {V : Type 0} (items : V → List Answer) (r : Result V RunFault) (o : Result (List Answer) SealFault) → r ≡ Err Memory → Told items r o
told_memory items r o e = subst (λ x. Told items x o) (sym e) tt

-- a refused sealing is told
pub told_fault : {V : Type 0} (items : V → List Answer) (r : Result V RunFault) (o : Result (List Answer) SealFault) (f : SealFault) → r ≡ Err (Seal f) → Err f ≡ o → Told items r o
told_fault items r o f e is = subst (λ x. Told items x o) (sym e) is

refused_over : (o : Result Content SealFault) (h : Hall) (calls : List Call) (f : SealFault) → Err f ≡ sealed_or o → Err f ≡ answers_over h o calls
refused_over (Ok c) h calls f e = absurd (let z : ◌≡◌ {A = ℕ} 0 1 = cc in omega arith)
refused_over (Err n) h calls f e = let same : f ≡ n = cc in ap Err same

-- a refused sealing of a new guard gives no answers
pub refused_run : {P : Type 0} (m : P → Hall) (plan : P) (g : Guard P) (ws : List ℕ) (calls : List Call) (f : SealFault)
    → g.site.plan ≡ plan → ground_in (m plan) g ≡ ground_of (m plan) none
    → Err f ≡ sealed_or (sealing_after (ground_in (m g.site.plan) g).content (m g.site.plan) ws) → Err f ≡ answers_of (m plan) ws calls
refused_run m plan g ws calls f is blank told =
    let empty : (ground_in (m plan) g).content ≡ none = ap (λ (x : Ground). x.content) blank in
    refused_over (sealing (m plan) ws) (m plan) calls f
    (told ∙ ap (λ p. sealed_or (sealing_after (ground_in (m plan) g).content (m p) ws)) is ∙ ap (λ (c : Content). sealed_or (sealing_after c (m plan) ws)) empty)

-- a run from an accepted sealing gives the answers
from_sealing : {P : Type 0} (h : Hall) (g g' : Guard P) (ws : List ℕ) (calls : List Call) (answers : List Answer)
    → Begins h g ws → Replays h g g' calls answers → Ok answers ≡ answers_of h ws calls
from_sealing h g g' ws calls answers new runs =
    let c = (ground_in h g).content in
    ap Ok (runs.goes_on ws c [] new.stands).0 ∙ sym (ap (λ o. answers_over h o calls) new.stands.sealed)

-- the same of a new guard over a plan that is sealed and then run
pub from_new : {P : Type 0} (m : P → Hall) (plan : P) (new g g' : Guard P) (ws : List ℕ) (calls : List Call) (answers : List Answer)
    → new.site.plan ≡ plan → g.site.plan ≡ new.site.plan → Begins (m new.site.plan) g ws → Replays (m g.site.plan) g g' calls answers
    → Ok answers ≡ answers_of (m plan) ws calls
from_new m plan new g g' ws calls answers is same begins runs =
    from_sealing (m new.site.plan) g g' ws calls answers begins (subst (λ p. Replays (m p) g g' calls answers) same runs)
    ∙ ap (λ p. answers_of (m p) ws calls) is
