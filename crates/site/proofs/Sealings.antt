-- What sealing comes to, step by step.
use Rattle.std.proofs.Common.{◌≡◌, ℕ, Bool, true, false, cond, eqb, List, length, Ok, Err, Option, Result, sym, ap, ◌∙◌, ⊎_elim, arith}
use Rattle.std.proofs.lemmas.Bool.{cases_Bool, eq-eqb, le-ltb, false≢true}
use Rattle.wordlist.specs.declared.faults.RecordFault.{RecordFault}
use Rattle.wordlist.specs.Reading.{Answer, run, ended}
use Rattle.wordlist.specs.Outcomes.{given, answered, replaced}
use Rattle.plan.specs.Hall.{Hall}
use Rattle.policy.specs.Contents.{Content, none}
use Rattle.policy.specs.Reading.{content_from}
use Rattle.policy.specs.Rules.{policy_rules}
use Rattle.checks.specs.declared.faults.SealFault.{SealFault}
use Rattle.checks.specs.declared.faults.SealFault.TheVariants.{Sealed}
use Rattle.checks.specs.Sight.{sight_of}
use Rattle.checks.specs.Faults.{first_fault}
use Rattle.sealing.specs.Outcome.{unless, allowed, sealing, sealing_after}

-- an accepted reading gives what is kept after it
pub accepted_is : (o : Result Content RecordFault) (old new : Content) → Ok tt ≡ answered o → new ≡ replaced old o → o ≡ Ok new
accepted_is (Ok c) old new a e = ap Ok (sym e)
accepted_is (Err f) old new a e = cc

-- a reading that ended well has badges
ended_well : (a : Content × Answer) (n : ℕ) (c : Content) → given (λ s. s) (ended policy_rules n a) ≡ Ok c → eqb c.badges 0 ≡ false
ended_well (s, Ok u) n c e =
    ⊎_elim
    (λ (z : eqb s.badges 0 ≡ true). let o : given (λ s. s) (s, Err _) ≡ Ok c = rw z at e in cc)
    (λ (z : eqb s.badges 0 ≡ false). let o : Ok s ≡ Ok c = rw z at e in let same : s ≡ c = cc in ap (λ (t : Content). eqb t.badges 0) (sym same) ∙ z)
    (cases_Bool (eqb s.badges 0))
ended_well (s, Err f) n c e = cc

pub read_has_badges : (ws : List ℕ) (c : Content) → content_from ws ≡ Ok c → c.badges ≡ 0 → ⊥
read_has_badges ws c e z = false≢true (sym (ended_well (run policy_rules none 0 ws) (length ws) c e) ∙ eq-eqb c.badges 0 z)

-- the words were read and the first fault of what they say is o
pub outcome_is : (before : Content) (h : Hall) (ws : List ℕ) (new : Content) (o : Option SealFault) → before.badges ≡ 0 → content_from ws ≡ Ok new → o ≡ first_fault (sight_of h) new → sealing_after before h ws ≡ unless o new
outcome_is before h ws new o unsealed read found =
    ap (λ (b : Bool). cond b (Err Sealed) (sealing h ws)) (le-ltb 0 before.badges (omega (arith, unsealed)))
    ∙ ap (allowed h) read
    ∙ ap (λ (f : Option SealFault). unless f new) (sym found)
