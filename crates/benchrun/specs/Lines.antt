-- What a line does to a guard.
use Rattle.std.specs.Prelude.{◌≡◌, ℕ, List, ◌++◌, Some, None, Option, Result, OnOk}
use Rattle.std.specs.Option.{option_map}
use Rattle.plan.specs.Hall.{Hall}
use Rattle.policy.specs.Contents.{Content}
use Rattle.calls.specs.declared.call.Call.{Call}
use Rattle.calls.specs.Answers.{Answer}
use Rattle.calls.specs.Standing.{Standing}
use Rattle.sealing.specs.Ground.{ground_of}
use Rattle.history.specs.History.{answer}
use Rattle.history.specs.Replies.{reply}
use Rattle.guard.specs.declared.guard.Guard.{Guard}
use Rattle.guard.specs.Kept.{kept_of, ground_in}
use Rattle.guard.specs.Stands.{Stands, kept_after}
use Rattle.benchrun.specs.Printed.{with_call, line_text}

module _ {P : Type 0} (h : Hall) where
  -- the answer to a call by what the guard keeps
  abbrev pub reply_to : Guard P → Call → Answer
  reply_to g c = reply (ground_in h g) (kept_of g c.badge) c

  -- how badge b stands after a line that makes this call, if any
  abbrev pub kept_by : Guard P → Option Call → ℕ → Standing
  kept_by g None b = kept_of g b
  kept_by g (Some c) b = kept_after h g c b

  -- a line's call, if it makes one, is answered by what the guard keeps, and changes nothing but the badge that it names
  pub record Answers (g g' : Guard P) (call : Option Call) (a : Option Answer) : Type 0 where
    pub answered : a ≡ option_map (reply_to g) call
    pub site : g'.site ≡ g.site
    pub kept : (b : ℕ) → kept_of g' b ≡ kept_by g call b

  -- wherever the guard stands after calls, a is the answer to the line's call after them, if it makes one, and then the
  -- guard stands after that call too
  abbrev pub GoesOn : Guard P → Guard P → Option Call → Option Answer → Type 0
  GoesOn g g' call a =
      (ws : List ℕ) (c : Content) (calls : List Call) → Stands h ws c calls g
      → (a ≡ option_map (answer (ground_of h c) calls) call) × Stands h ws c (with_call call calls) g'

  -- wherever the guard stands after calls, the text grows, if memory allows, by what is printed for the line after them,
  -- and then the guard stands after the line's call too
  abbrev pub PrintsOn : {E : Type 0} → Guard P → Guard P → Option Call → Result (Unit {0}) E → List ℕ → List ℕ → Type 0
  PrintsOn g g' call r old new =
      (ws : List ℕ) (c : Content) (calls : List Call) → Stands h ws c calls g
      → OnOk r (new ≡ old ++ line_text (ground_of h c) calls call) × Stands h ws c (with_call call calls) g'
