-- The policy of the hall is sealed over it.
use Rattle.std.proofs.Common.{◌≡◌, ℕ, List, [], Ok, Err, Result, sym, refl, ap, ◌∙◌, subst, arith, MatchResult}
use Rattle.plan.specs.Hall.{Hall}
use Rattle.policy.specs.Contents.{Content, none}
use Rattle.policy.specs.Worked.{hall_words}
use Rattle.checks.specs.declared.faults.SealFault.{SealFault}
use Rattle.sealing.specs.Ground.{ground_of}
use Rattle.sealing.specs.Outcome.{sealing, sealing_after, sealed_or}
use Rattle.listed.specs.declared.listed.Listed.{Listed}
use Rattle.drawn.specs.declared.outline.Outline.{Outline}
use Rattle.cases.specs.Halls.{eight}
use Rattle.guard.specs.declared.guard.Guard.{Guard}
use Rattle.guard.specs.Kept.{ground_in}
use Rattle.guard.specs.Stands.{Stands, Begins}
use Rattle.benchrun.specs.declared.faults.BenchFault.{BenchFault}
use Rattle.benchrun.specs.Hall.{Ready, Bench, hall_of_plan, LacksMemory}
use Rattle.benchrun.specs.Printed.{printed}

-- by computing it
fits : sealed_or (sealing eight hall_words) ≡ Ok tt
fits = refl

-- where nothing was sealed before, the policy is not refused
pub never_refused : (h : Hall) (before : Content) (f : SealFault) → h ≡ eight → before ≡ none → Err f ≡ sealed_or (sealing_after before h hall_words) → ⊥
never_refused h before f is new told =
    differ
    (told
    ∙ ap (λ (b : Content). sealed_or (sealing_after b h hall_words)) new
    ∙ ap (λ (x : Hall). sealed_or (sealing x hall_words)) is
    ∙ fits)
  where
    differ : ◌≡◌ {A = Result (Unit {0}) SealFault} (Err f) (Ok tt) → ⊥
    differ e = let z : ◌≡◌ {A = ℕ} 0 1 = cc in omega arith

-- an accepted sealing makes the guard ready
pub ready : (g g' : Guard (Listed Outline)) → hall_of_plan g.site.plan ≡ eight → g'.site.plan ≡ g.site.plan → Begins (hall_of_plan g.site.plan) g' hall_words → Ready g'
ready g g' is same begins =
    let hall : hall_of_plan g'.site.plan ≡ hall_of_plan g.site.plan = ap hall_of_plan same in
    record {
      hall = hall ∙ is;
      stands = subst (λ (h : Hall). Stands h hall_words (ground_in h g').content [] g') (sym hall) begins.stands;
    }

-- only one policy is sealed
only : (r : Result Content SealFault) (c d : Content) → r ≡ Ok c → r ≡ Ok d → c ≡ d
only r c d p q = cc

-- what is printed by a guard that is ready
pub ready_prints :
    (g : Guard (Listed Outline)) (text input : List ℕ) → Ready g
    → ((ws : List ℕ) (c : Content) → Stands (hall_of_plan g.site.plan) ws c [] g → text ≡ printed (ground_of (hall_of_plan g.site.plan) c) input)
    → Bench input text
ready_prints g text input is law =
    record {
      prints = λ c sealed.
          let h = hall_of_plan g.site.plan in
          let d = (ground_in h g).content in
          let same : d ≡ c = only (sealing eight hall_words) d c (subst (λ (x : Hall). sealing x hall_words ≡ Ok d) is.hall is.stands.sealed) sealed in
          law hall_words d is.stands ∙ ap (λ (x : Hall). printed (ground_of x d) input) is.hall ∙ ap (λ (x : Content). printed (ground_of eight x) input) same;
    }

-- a fault for want of memory is handed on
pub handed_on : (T : Type 0) (r : Result T BenchFault) (M : T → Type 0) (f : BenchFault) → r ≡ Err f → LacksMemory f → MatchResult r M LacksMemory
handed_on T r M f is lacks = subst (λ (x : Result T BenchFault). MatchResult x M LacksMemory) (sym is) lacks
