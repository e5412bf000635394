-- What the calls since sealing come to, read off the calls alone. A list of calls has the newest first.
use Rattle.std.specs.Prelude.{ℕ, suc, min, Bool, true, false, cond, ◌&&◌, List, [], ◌∷◌, Some, None, Option, ◌==◌}
use Rattle.std.specs.Option.{option_or, unwrap_or}
use Rattle.sealing.specs.Ground.{Ground}
use Rattle.calls.specs.declared.call.Call.{Call}
use Rattle.calls.specs.declared.call.Event.{Event}
use Rattle.calls.specs.declared.call.Event.TheVariants.{Report, Miss, Open, Close, Activate, Drop, Where, Enabled, Roles, Ask}
use Rattle.calls.specs.Answers.{Answer}
use Rattle.calls.specs.declared.refusal.Refusal.{Refusal}
use Rattle.calls.specs.Standing.{Standing, most_misses}
use Rattle.history.specs.Refusals.{refusal}
use Rattle.history.specs.Replies.{reply}

-- what the newest call that says anything of a matter says of it
abbrev pub latest : {A : Type 0} → (Call → Option A) → List Call → Option A
latest says [] = None
latest says (c ∷ calls) = option_or (says c) (latest says calls)

-- the position that an event of a badge says
abbrev pub says_position : Event → Option (ℕ × ℕ)
says_position (Report p) = Some (p.x, p.y)
says_position Miss = None
says_position (Open s) = None
says_position (Close s) = None
says_position (Activate s r) = None
says_position (Drop s r) = None
says_position (Where r) = None
says_position (Enabled r) = None
says_position (Roles s) = None
says_position (Ask s operation object) = None

-- whether it says that session t is open or not
abbrev pub says_open : ℕ → Event → Option Bool
says_open t (Report p) = None
says_open t Miss = None
says_open t (Open s) = cond (s == t) (Some true) None
says_open t (Close s) = cond (s == t) (Some false) None
says_open t (Activate s r) = None
says_open t (Drop s r) = None
says_open t (Where r) = None
says_open t (Enabled r) = None
says_open t (Roles s) = None
says_open t (Ask s operation object) = None

-- whether it says that role q is active in session t or not
abbrev pub says_active : ℕ → ℕ → Event → Option Bool
says_active t q (Report p) = None
says_active t q Miss = None
says_active t q (Open s) = None
says_active t q (Close s) = cond (s == t) (Some false) None
says_active t q (Activate s r) = cond (s == t && r == q) (Some true) None
says_active t q (Drop s r) = cond (s == t && r == q) (Some false) None
says_active t q (Where r) = None
says_active t q (Enabled r) = None
says_active t q (Roles s) = None
says_active t q (Ask s operation object) = None

-- the same of a call: one that names another badge says nothing
abbrev pub of : {A : Type 0} → ℕ → (Event → Option A) → Call → Option A
of b says c = cond (c.badge == b) (says c.event) None

-- Below, up to `standing`, `calls` are accepted calls.

-- where badge b was heard last
abbrev pub position : List Call → ℕ → Option (ℕ × ℕ)
position calls b = latest (of b says_position) calls

-- session s of badge b is open
abbrev pub is_open : List Call → ℕ → ℕ → Bool
is_open calls b s = unwrap_or (latest (of b (says_open s)) calls) false

-- role r is active in session s of badge b
abbrev pub is_active : List Call → ℕ → ℕ → ℕ → Bool
is_active calls b s r = unwrap_or (latest (of b (says_active s r)) calls) false

-- the misses after one event more
abbrev pub counted : Event → ℕ → ℕ
counted (Report p) n = 0
counted Miss n = suc n
counted (Open s) n = n
counted (Close s) n = n
counted (Activate s r) n = n
counted (Drop s r) n = n
counted (Where r) n = n
counted (Enabled r) n = n
counted (Roles s) n = n
counted (Ask s operation object) n = n

-- the misses of badge b since its last report
abbrev pub missed_since : List Call → ℕ → ℕ
missed_since [] b = 0
missed_since (c ∷ calls) b = cond (c.badge == b) (counted c.event (missed_since calls b)) (missed_since calls b)

-- so many misses count; a badge that was never heard has none
abbrev pub at_most : Option (ℕ × ℕ) → ℕ → ℕ
at_most None n = 0
at_most (Some p) n = min most_misses n

-- the misses of badge b that count
abbrev pub misses : List Call → ℕ → ℕ
misses calls b = at_most (position calls b) (missed_since calls b)

-- how badge b stands by accepted calls
abbrev pub standing : List Call → ℕ → Standing
standing calls b = record { position = position calls b; misses = misses calls b; opened = is_open calls b; active = is_active calls b }

-- a call after the accepted ones: kept where it is accepted
abbrev pub kept_if : Option Refusal → Call → List Call → List Call
kept_if None c calls = c ∷ calls
kept_if (Some n) c calls = calls

module _ (g : Ground) where
  -- the accepted ones of a list of calls: none of the refusals holds after the calls before
  abbrev pub accepted : List Call → List Call
  accepted [] = []
  accepted (c ∷ calls) = kept_if (refusal g (standing (accepted calls) c.badge) c) c (accepted calls)

  -- how badge b stands after a list of calls, accepted or not
  abbrev pub after : List Call → ℕ → Standing
  after calls b = standing (accepted calls) b

  -- the answer to the call c after a list of calls, accepted or not
  abbrev pub answer : List Call → Call → Answer
  answer calls c = reply g (after calls c.badge) c

  -- the answers to calls in the order in which they come, after past calls
  abbrev pub answers_after : List Call → List Call → List Answer
  answers_after past [] = []
  answers_after past (c ∷ calls) = answer past c ∷ answers_after (c ∷ past) calls

-- past calls, newest first, and then calls in the order in which they come
abbrev pub followed_by : List Call → List Call → List Call
followed_by past [] = past
followed_by past (c ∷ calls) = followed_by (c ∷ past) calls
