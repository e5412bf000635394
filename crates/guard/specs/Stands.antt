-- What one call does to a guard, and when a guard stands after a list of calls since its sealing.
use Rattle.std.specs.Prelude.{◌≡◌, ℕ, true, false, cond, List, [], ◌∷◌, Ok, Err, Result, ◌==◌}
use Rattle.plan.specs.Hall.{Hall}
use Rattle.policy.specs.Contents.{Content}
use Rattle.checks.specs.declared.faults.SealFault.{SealFault}
use Rattle.sealing.specs.Ground.{ground_of, ground_after}
use Rattle.sealing.specs.Laws.{Fits, Lineage}
use Rattle.sealing.specs.Outcome.{sealing, is_sealed, sealing_after, sealed_or, kept_unless}
use Rattle.calls.specs.declared.call.Call.{Call}
use Rattle.calls.specs.Answers.{Answer}
use Rattle.calls.specs.declared.call.Reply.TheVariants.{Granted}
use Rattle.calls.specs.declared.refusal.Refusal.TheVariants.{UnknownBadge}
use Rattle.calls.specs.Standing.{Standing, nothing_yet}
use Rattle.history.specs.Following.{settled, Agrees}
use Rattle.history.specs.History.{answer}
use Rattle.history.specs.Laws.{LowestServes}
use Rattle.history.specs.Replies.{reply}
use Rattle.guard.specs.declared.guard.Guard.{Guard}
use Rattle.guard.specs.Kept.{kept_of, ground_in}

-- each follows from the other
pub record BothWays (A B : Type 0) : Type 0 where
  pub to : A → B
  pub from : B → A

module _ {P : Type 0} (h : Hall) where
  -- how badge b stands after a call of a guard: only the badge that the call names moves
  abbrev pub kept_after : Guard P → Call → ℕ → Standing
  kept_after g c b = cond (c.badge == b) (settled (ground_in h g) (kept_of g b) c) (kept_of g b)

  -- the call c is answered by what the guard keeps, and changes nothing but the badge that it names
  pub record Performs (g g' : Guard P) (c : Call) (a : Answer) : Type 0 where
    pub answered : a ≡ reply (ground_in h g) (kept_of g c.badge) c
    pub site : g'.site ≡ g.site
    pub kept : (b : ℕ) → kept_of g' b ≡ kept_after g c b

  -- the guard was sealed over the hall with the words, which say the policy c, and stands after these calls, newest first
  pub record Stands (ws : List ℕ) (c : Content) (calls : List Call) (g : Guard P) : Type 0 where
    pub sealed : sealing h ws ≡ Ok c
    pub grounded : ground_in h g ≡ ground_of h c
    pub agrees : Agrees (ground_of h c) (kept_of g) calls

  -- the words are sealed or refused by what was sealed before; a refusal changes nothing, and else all begins anew
  pub record Seals (g g' : Guard P) (ws : List ℕ) (r : Result (Unit {0}) SealFault) : Type 0 where
    pub answered : r ≡ sealed_or (sealing_after (ground_in h g).content h ws)
    pub plan : g'.site.plan ≡ g.site.plan
    pub grounded : ground_in h g' ≡ ground_after (ground_in h g) h (sealing_after (ground_in h g).content h ws)
    pub kept : (b : ℕ) → kept_of g' b ≡ kept_unless r nothing_yet (kept_of g b)

  -- an accepted sealing gives a sealed guard that stands after no calls, with a policy that fits the hall
  pub record Begins (g : Guard P) (ws : List ℕ) : Type 0 where
    pub sealed : is_sealed (ground_in h g).content ≡ true
    pub stands : Stands ws (ground_in h g).content [] g
    pub fits : Fits h (ground_in h g).content
    pub lineage : Lineage h (ground_in h g).content

  -- before sealing every call and question is refused, since there are no badges
  abbrev pub UnsealedRefuses : Guard P → Answer → Type 0
  UnsealedRefuses g a = is_sealed (ground_in h g).content ≡ false → a ≡ Err UnknownBadge

  -- wherever the guard stands after calls, a is the answer to e after them, and then it stands after e too
  abbrev pub Continues : Guard P → Guard P → Call → Answer → Type 0
  Continues g g' e a =
      (ws : List ℕ) (c : Content) (calls : List Call) → Stands ws c calls g
      → (a ≡ answer (ground_of h c) calls e) × Stands ws c (e ∷ calls) g'

  -- wherever the guard stands after calls, the answer grants by a role exactly when it is the lowest-numbered one that
  -- is active in the session and enabled for the badge by these calls and has the right
  abbrev pub Grants : Guard P → ℕ → ℕ → ℕ → ℕ → Answer → Type 0
  Grants g b s operation object a =
      (ws : List ℕ) (c : Content) (calls : List Call) → Stands ws c calls g
      → (r : ℕ) → BothWays (a ≡ Ok (Granted r)) (LowestServes (ground_of h c) calls b s operation object r)

-- the same where a plan means what `hall` says of it
module _ {P : Type 0} (hall : P → Hall) where
  abbrev pub PerformsBy : Guard P → Guard P → Call → Answer → Type 0
  PerformsBy g = Performs (hall g.site.plan) g

  abbrev pub ContinuesBy : Guard P → Guard P → Call → Answer → Type 0
  ContinuesBy g = Continues (hall g.site.plan) g
