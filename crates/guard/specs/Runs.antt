-- Whole runs of calls.
use Rattle.std.specs.Prelude.{◌≡◌, ℕ, true, List, [], Ok, Err, Decides, Result}
use Rattle.plan.specs.Hall.{Hall}
use Rattle.plan.specs.Lying.{lies_in}
use Rattle.policy.specs.Contents.{Content}
use Rattle.rights.specs.Ancestors.{ancestor}
use Rattle.checks.specs.declared.faults.SealFault.{SealFault}
use Rattle.sealing.specs.Ground.{ground_of}
use Rattle.sealing.specs.Outcome.{sealing}
use Rattle.calls.specs.declared.call.Call.{Call}
use Rattle.calls.specs.Answers.{Answer}
use Rattle.history.specs.History.{accepted, after, answers_after, followed_by}
use Rattle.history.specs.Laws.{ActiveBy, Exactly, answers_to, only}
use Rattle.history.specs.Questions.{is_enabled}
use Rattle.guard.specs.declared.guard.Guard.{Guard}
use Rattle.guard.specs.declared.guard.RunFault.{RunFault}
use Rattle.guard.specs.declared.guard.RunFault.TheVariants.{Seal, Memory}
use Rattle.guard.specs.Stands.{Stands}

-- the answers to calls after the sealing of a policy, unless that is refused
abbrev pub answers_over : Hall → Result Content SealFault → List Call → Result (List Answer) SealFault
answers_over h (Ok c) calls = Ok (answers_after (ground_of h c) [] calls)
answers_over h (Err f) calls = Err f

-- the answers to calls, in the order in which they come, from the sealing of the words over the hall on
abbrev pub answers_of : Hall → List ℕ → List Call → Result (List Answer) SealFault
answers_of h ws calls = answers_over h (sealing h ws) calls

-- the answers that the calls of badge b get among these
abbrev pub own_over : Hall → Result Content SealFault → ℕ → List Call → Result (List Answer) SealFault
own_over h (Ok c) b calls = Ok (answers_to (ground_of h c) b [] calls)
own_over h (Err f) b calls = Err f

-- what holds of every list of calls after the sealing of the words over the hall
pub record Lawful (h : Hall) (ws : List ℕ) : Type 0 where
  -- a role is active exactly when its activation was accepted there and no accepted drop of it or close came after
  pub active : (c : Content) → sealing h ws ≡ Ok c → (calls : List Call) (b s r : ℕ) → Decides ((after (ground_of h c) calls b).active s r) (ActiveBy (accepted (ground_of h c) calls) b s r)
  -- asking grants exactly by the lowest-numbered role that is active there and enabled and has the right
  pub grants : (c : Content) → sealing h ws ≡ Ok c → (calls : List Call) (b s operation object r : ℕ) → Exactly (ground_of h c) calls b s operation object r
  -- a badge enabled in a role is enabled in every ancestor of it
  pub ancestors : (c : Content) → sealing h ws ≡ Ok c → (calls : List Call) (b r a : ℕ) → ancestor (lies_in h) c r a ≡ true
      → is_enabled (ground_of h c) (after (ground_of h c) calls b) r ≡ true → is_enabled (ground_of h c) (after (ground_of h c) calls b) a ≡ true
  -- with the calls of other badges struck out, a new guard answers each call that is left as the first one did
  pub struck : (calls : List Call) (b : ℕ) → answers_of h ws (only b calls) ≡ own_over h (sealing h ws) b calls

-- the result of a run, in which `items` gives the answers, is what it should be, or the memory did not suffice
abbrev pub Told : {V : Type 0} → (V → List Answer) → Result V RunFault → Result (List Answer) SealFault → Type 0
Told items (Ok v) o = Ok (items v) ≡ o
Told items (Err (Seal f)) o = Err f ≡ o
Told items (Err Memory) o = Unit {0}

module _ {P : Type 0} (h : Hall) where
  -- wherever the guard stands after past calls, these are the answers to the calls after them, and then it stands after
  -- those too
  pub record Replays (g g' : Guard P) (calls : List Call) (answers : List Answer) : Type 0 where
    pub site : g'.site ≡ g.site
    pub goes_on : (ws : List ℕ) (c : Content) (past : List Call) → Stands h ws c past g
        → (answers ≡ answers_after (ground_of h c) past calls) × Stands h ws c (followed_by past calls) g'
