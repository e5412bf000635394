-- `closure`: the records before the index are in the rows.
use Rattle.std.proofs.Common.{◌≡◌, length}
use Rattle.policy.specs.Policies.{says}
use Rattle.rights.proofs.Closing.{Closed}
use Rattle.rights.proofs.closure.closure.Given as goal

abbrev pub invariant-loop-step : goal.invariant-loop-step
invariant-loop-step l = (length l.rows ≡ 32) × Closed (says l.policy) l.step-index l.rows
