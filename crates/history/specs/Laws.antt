-- The laws of every list of calls, over a plan and the policy that words seal over it.
use Rattle.std.specs.Prelude.{◌≡◌, ℕ, ◌<◌, Bool, true, false, cond, ◌&&◌, List, [], ◌∷◌, ◌++◌, Ok, Decides, filter, ◌==◌}
use Rattle.plan.specs.Hall.{Hall}
use Rattle.plan.specs.Lying.{lies_in}
use Rattle.policy.specs.Contents.{Content}
use Rattle.rights.specs.Ancestors.{ancestor}
use Rattle.sealing.specs.Outcome.{sealing}
use Rattle.sealing.specs.Ground.{Ground, ground_of}
use Rattle.calls.specs.declared.call.Call.{Call}
use Rattle.calls.specs.declared.call.Event.{Event}
use Rattle.calls.specs.declared.call.Event.TheVariants.{Report, Miss, Open, Close, Activate, Drop, Where, Enabled, Roles, Ask}
use Rattle.calls.specs.Answers.{Answer}
use Rattle.calls.specs.declared.call.Reply.TheVariants.{Granted}
use Rattle.history.specs.Questions.{is_enabled, may}
use Rattle.history.specs.History.{accepted, after, answer, answers_after}

-- an event of badge b
abbrev pub call : ℕ → Event → Call
call b e = record { badge = b; event = e }

-- the event ends role r in session s: it drops the role there, or closes the session
abbrev pub ends : ℕ → ℕ → Event → Bool
ends s r (Report p) = false
ends s r Miss = false
ends s r (Open t) = false
ends s r (Close t) = t == s
ends s r (Activate t q) = false
ends s r (Drop t q) = t == s && q == r
ends s r (Where q) = false
ends s r (Enabled q) = false
ends s r (Roles t) = false
ends s r (Ask t operation object) = false

-- none of the calls ends role r in session s of badge b
abbrev pub NoneEnds : ℕ → ℕ → ℕ → List Call → Type 0
NoneEnds b s r [] = Unit {0}
NoneEnds b s r (c ∷ calls) = ((c.badge == b && ends s r c.event) ≡ false) × NoneEnds b s r calls

-- of accepted calls: the activation of role r in session s of badge b is one, and no later one ends it
pub record ActiveBy (calls : List Call) (b s r : ℕ) : Type 0 where
  pub later : List Call
  pub earlier : List Call
  pub activated : calls ≡ later ++ call b (Activate s r) ∷ earlier
  pub lasts : NoneEnds b s r later

-- the role is active: its activation was accepted there, and no accepted drop of it or close came after
abbrev pub ActiveMeans : Type 0
ActiveMeans = (g : Ground) (calls : List Call) (b s r : ℕ) → Decides ((after g calls b).active s r) (ActiveBy (accepted g calls) b s r)

-- no role is active in a session that is not open, so one that is opened starts with none
abbrev pub ClosedEmpty : Type 0
ClosedEmpty = (g : Ground) (calls : List Call) (b s r : ℕ) → (after g calls b).opened s ≡ false → (after g calls b).active s r ≡ false

-- role r is active in the session and enabled for the badge by the calls, and may do the operation on the object
pub record Serves (g : Ground) (calls : List Call) (b s operation object r : ℕ) : Type 0 where
  pub active : ActiveBy (accepted g calls) b s r
  pub enabled : is_enabled g (after g calls b) r ≡ true
  pub entitles : may g operation object r ≡ true

-- the lowest-numbered such role
pub record LowestServes (g : Ground) (calls : List Call) (b s operation object r : ℕ) : Type 0 where
  pub serves : Serves g calls b s operation object r
  pub lowest : (q : ℕ) → q < r → Serves g calls b s operation object q → ⊥

-- asking grants by role r exactly when it is the lowest-numbered active enabled role that has the right
pub record Exactly (g : Ground) (calls : List Call) (b s operation object r : ℕ) : Type 0 where
  pub only_if : answer g calls (call b (Ask s operation object)) ≡ Ok (Granted r) → LowestServes g calls b s operation object r
  pub when : LowestServes g calls b s operation object r → answer g calls (call b (Ask s operation object)) ≡ Ok (Granted r)

abbrev pub GrantsExactly : Type 0
GrantsExactly = (h : Hall) (c : Content) (calls : List Call) (b s operation object r : ℕ) → Exactly (ground_of h c) calls b s operation object r

-- a badge enabled in a role is enabled in every ancestor of it
abbrev pub EnabledAbove : Type 0
EnabledAbove =
    (h : Hall) (ws : List ℕ) (c : Content) → sealing h ws ≡ Ok c
    → (calls : List Call) (b r a : ℕ) → ancestor (lies_in h) c r a ≡ true
    → is_enabled (ground_of h c) (after (ground_of h c) calls b) r ≡ true → is_enabled (ground_of h c) (after (ground_of h c) calls b) a ≡ true

-- the call names badge b
abbrev pub names : ℕ → Call → Bool
names b c = c.badge == b

-- the calls that name badge b, the others struck out
abbrev pub only : ℕ → List Call → List Call
only b calls = filter (names b) calls

module _ (g : Ground) where
  -- the answers that calls of badge b get in a run
  abbrev pub answers_to : ℕ → List Call → List Call → List Answer
  answers_to b past [] = []
  answers_to b past (c ∷ calls) = cond (names b c) (answer g past c ∷ answers_to b (c ∷ past) calls) (answers_to b (c ∷ past) calls)

-- a call's answer does not change when the calls that name other badges are struck out
abbrev pub Struck : Type 0
Struck = (g : Ground) (calls : List Call) (c : Call) → answer g (only c.badge calls) c ≡ answer g calls c

-- the same of a whole run from sealing
abbrev pub StruckRuns : Type 0
StruckRuns = (g : Ground) (b : ℕ) (calls : List Call) → answers_after g [] (only b calls) ≡ answers_to g b [] calls
