-- How one badge stands: what accepted calls come to, and how an accepted event of the badge changes it.
use Rattle.std.specs.Prelude.{ℕ, suc, min, Bool, true, false, cond, ◌&&◌, Some, None, Option, ◌==◌, nat_lt}
use Rattle.calls.specs.declared.call.Event.{Event}
use Rattle.calls.specs.declared.call.Event.TheVariants.{Report, Miss, Open, Close, Activate, Drop, Where, Enabled, Roles, Ask}

-- where it was heard last, how often it was missed since, which sessions are open, which roles are active in a session
pub record Standing : Type 0 where
  pub position : Option (ℕ × ℕ)
  pub misses : ℕ
  pub opened : ℕ → Bool
  pub active : ℕ → ℕ → Bool

-- never heard, no session open, no role active
abbrev pub nothing_yet : Standing
nothing_yet = record { position = None; misses = 0; opened = λ s. false; active = λ s r. false }

-- each badge has so many sessions
abbrev pub session_count : ℕ
session_count = 4

-- there are at most so many roles
abbrev pub most_roles : ℕ
most_roles = 64

-- at most so many misses are counted
abbrev pub most_misses : ℕ
most_misses = 4

-- one miss more; a badge never heard has none
abbrev pub one_more : Option (ℕ × ℕ) → ℕ → ℕ
one_more None m = 0
one_more (Some p) m = min most_misses (suc m)

-- the standing after an accepted event; a question changes nothing
abbrev pub moved : Event → Standing → Standing
moved (Report p) st = record { position = Some (p.x, p.y); misses = 0; opened = st.opened; active = st.active }
moved Miss st = record { position = st.position; misses = one_more st.position st.misses; opened = st.opened; active = st.active }
moved (Open s) st = record { position = st.position; misses = st.misses; opened = λ t. cond (s == t) true (st.opened t); active = st.active }
moved (Close s) st = record { position = st.position; misses = st.misses; opened = λ t. cond (s == t) false (st.opened t); active = λ t q. cond (s == t) false (st.active t q) }
moved (Activate s r) st = record { position = st.position; misses = st.misses; opened = st.opened; active = λ t q. cond (s == t && r == q) true (st.active t q) }
moved (Drop s r) st = record { position = st.position; misses = st.misses; opened = st.opened; active = λ t q. cond (s == t && r == q) false (st.active t q) }
moved (Where r) st = st
moved (Enabled r) st = st
moved (Roles s) st = st
moved (Ask s operation object) st = st

-- the sessions and roles that the event names are ones that there can be
abbrev pub in_range : Event → Bool
in_range (Report p) = true
in_range Miss = true
in_range (Open s) = nat_lt s session_count
in_range (Close s) = nat_lt s session_count
in_range (Activate s r) = nat_lt s session_count && nat_lt r most_roles
in_range (Drop s r) = nat_lt s session_count && nat_lt r most_roles
in_range (Where r) = true
in_range (Enabled r) = true
in_range (Roles s) = true
in_range (Ask s operation object) = true

-- the same of any event: one out of range changes nothing
abbrev pub moved_within : Event → Standing → Standing
moved_within e st = cond (in_range e) (moved e st) st
