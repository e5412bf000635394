-- `change`: where there is such a session, the call leaves what stands there.
use Rattle.std.proofs.Common.{rules, refl, arith}
use Rattle.std.proofs.lemmas.List.{get_or_default}
use Rattle.calls.specs.Kept.{shut}
use Rattle.calls.proofs.badge.Badge.change.Goals as goal

pub returns-then-session-lt-SESSIONS-clause-sessions :
    goal.returns-then-session-lt-SESSIONS-clause-sessions
returns-then-session-lt-SESSIONS-clause-sessions g c =
    record {
      there = λ l. (c.change.new.arg2, record { shown = _; shows = get_or_default c.args.self.now.sessions c.args.session _ shut l; left = _; met = c.change.ensures; leaves = refl }, refl);
      past = λ p. absurd (search (rules, arith));
    }
