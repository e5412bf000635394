-- When what is kept of each badge agrees with the calls since sealing, and how one call more keeps it so.
use Rattle.std.specs.Prelude.{◌≡◌, ℕ, List, ◌∷◌, Some, None, Option}
use Rattle.sealing.specs.Ground.{Ground}
use Rattle.calls.specs.declared.call.Call.{Call}
use Rattle.calls.specs.declared.call.Event.{Event}
use Rattle.calls.specs.Answers.{Answer}
use Rattle.calls.specs.declared.refusal.Refusal.{Refusal}
use Rattle.calls.specs.Standing.{Standing, moved}
use Rattle.history.specs.Refusals.{refusal}
use Rattle.history.specs.History.{after, answer}

-- the standing after an event that is refused for a reason, if for any
abbrev pub settled_by : Option Refusal → Event → Standing → Standing
settled_by None e st = moved e st
settled_by (Some n) e st = st

module _ (g : Ground) where
  -- the standing of its badge after a call, accepted or not
  abbrev pub settled : Standing → Call → Standing
  settled st c = settled_by (refusal g st c) c.event st

  -- of each badge is kept what the calls say of it
  abbrev pub Agrees : (ℕ → Standing) → List Call → Type 0
  Agrees kept calls = (b : ℕ) → kept b ≡ after g calls b

  -- wherever `kept` agrees with some calls, a is the answer to c after them, and `kept'` agrees with them and c
  abbrev pub Follows : (ℕ → Standing) → (ℕ → Standing) → Call → Answer → Type 0
  Follows kept kept' c a = (calls : List Call) → Agrees kept calls → (a ≡ answer g calls c) × Agrees kept' (c ∷ calls)
