-- The refusals of each call and question, in the order in which they are tried.
use Rattle.std.specs.Prelude.{ℕ, Bool, cond, not, ◌||◌, List, [], ◌∷◌, length, Some, None, Option, nat_le, nat_lt}
use Rattle.sets.specs.Bounds.{some}
use Rattle.rights.specs.Entitlement.{entitled}
use Rattle.sealing.specs.Ground.{Ground}
use Rattle.calls.specs.declared.call.Call.{Call}
use Rattle.calls.specs.declared.call.Event.{Event}
use Rattle.calls.specs.declared.call.Event.TheVariants.{Report, Miss, Open, Close, Activate, Drop, Where, Enabled, Roles, Ask}
use Rattle.calls.specs.declared.refusal.Refusal.{Refusal}
use Rattle.calls.specs.declared.refusal.Refusal.TheVariants.{UnknownBadge, UnknownSession, NotOpen, AlreadyOpen, UnknownRole, NotEntitled, AlreadyActive, NotActive, OffFloor, UnknownRight, NoRole, OutOfPatience, NotEnabled}
use Rattle.calls.specs.Standing.{Standing, session_count}
use Rattle.history.specs.Questions.{serves, serves_patient, grants}

-- a reason, and whether it holds
abbrev pub Reason : Type 0
Reason = Bool × Refusal

-- the first reason that holds
abbrev pub first_reason : List Reason → Option Refusal
first_reason [] = None
first_reason (reason ∷ reasons) = cond reason.0 (Some reason.1) (first_reason reasons)

module _ (g : Ground) (st : Standing) where
  -- the badge is not one of the policy's
  abbrev pub no_badge : ℕ → Reason
  no_badge b = (nat_le g.content.badges b, UnknownBadge)

  -- the session is not one that a badge has
  abbrev pub no_session : ℕ → Reason
  no_session s = (nat_le session_count s, UnknownSession)

  abbrev pub not_open : ℕ → Reason
  not_open s = (not (st.opened s), NotOpen)

  -- the role is not one of the policy's
  abbrev pub no_role : ℕ → Reason
  no_role r = (nat_le (length g.content.roles) r, UnknownRole)

  -- some role of the policy passes
  abbrev pub some_role : (ℕ → Bool) → Bool
  some_role passes = some (length g.content.roles) passes

  -- the reasons against an event of badge b
  abbrev pub reasons : ℕ → Event → List Reason
  reasons b (Report p) = no_badge b ∷ (not (g.on_floor p.x p.y), OffFloor) ∷ []
  reasons b Miss = no_badge b ∷ []
  reasons b (Open s) = no_badge b ∷ no_session s ∷ (st.opened s, AlreadyOpen) ∷ []
  reasons b (Close s) = no_badge b ∷ no_session s ∷ not_open s ∷ []
  reasons b (Activate s r) =
      no_badge b ∷ no_session s ∷ not_open s ∷ no_role r
      ∷ (not (entitled g.above g.content b r), NotEntitled)
      ∷ (st.active s r, AlreadyActive) ∷ []
  reasons b (Drop s r) =
      no_badge b ∷ no_session s ∷ not_open s ∷ no_role r
      ∷ (not (st.active s r), NotActive) ∷ []
  reasons b (Where r) = no_badge b ∷ no_role r ∷ []
  reasons b (Enabled r) = no_badge b ∷ no_role r ∷ []
  reasons b (Roles s) = no_badge b ∷ no_session s ∷ not_open s ∷ []
  reasons b (Ask s operation object) =
      no_badge b ∷ no_session s ∷ not_open s
      ∷ (nat_lt 15 operation || nat_lt 255 object, UnknownRight)
      ∷ (not (some_role (serves g st s operation object)), NoRole)
      ∷ (not (some_role (serves_patient g st s operation object)), OutOfPatience)
      ∷ (not (some_role (grants g st s operation object)), NotEnabled) ∷ []

  -- why the call is refused, if it is
  abbrev pub refusal : Call → Option Refusal
  refusal c = first_reason (reasons c.badge c.event)
