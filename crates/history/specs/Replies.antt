-- What a call or a question is answered, by how its badge stands.
use Rattle.std.specs.Prelude.{ℕ, length, Some, None, Ok, Err, Option}
use Rattle.sets.specs.Bounds.{lowest}
use Rattle.search.specs.Gathered.{gathered}
use Rattle.sealing.specs.Ground.{Ground}
use Rattle.calls.specs.declared.call.Call.{Call}
use Rattle.calls.specs.declared.call.Event.{Event}
use Rattle.calls.specs.declared.call.Event.TheVariants.{Report, Miss, Open, Close, Activate, Drop, Where, Enabled, Roles, Ask}
use Rattle.calls.specs.Answers.{Answer}
use Rattle.calls.specs.declared.call.Reply.TheVariants.{Done, Place, Verdict, RoleSet, Granted}
use Rattle.calls.specs.declared.refusal.Refusal.{Refusal}
use Rattle.calls.specs.Standing.{Standing}
use Rattle.history.specs.Questions.{where_is, is_enabled, grants, acts}
use Rattle.history.specs.Refusals.{refusal}

-- the role that was found; a call that is not refused has one
abbrev pub granted_by : Option ℕ → Answer
granted_by None = Ok Done
granted_by (Some r) = Ok (Granted r)

-- a refusal, or else the answer
abbrev pub refused_or : Option Refusal → Answer → Answer
refused_or None a = a
refused_or (Some n) a = Err n

module _ (g : Ground) (st : Standing) where
  -- the answer to an event that is not refused
  abbrev pub outcome : Event → Answer
  outcome (Report p) = Ok Done
  outcome Miss = Ok Done
  outcome (Open s) = Ok Done
  outcome (Close s) = Ok Done
  outcome (Activate s r) = Ok Done
  outcome (Drop s r) = Ok Done
  outcome (Where r) = Ok (Place (where_is g st r))
  outcome (Enabled r) = Ok (Verdict (is_enabled g st r))
  outcome (Roles s) = Ok (RoleSet (gathered (acts g st s)))
  outcome (Ask s operation object) = granted_by (lowest (length g.content.roles) (grants g st s operation object))

  -- the answer to a call
  abbrev pub reply : Call → Answer
  reply c = refused_or (refusal g st c) (outcome c.event)
