-- `first`: nothing is found below k.
use Rattle.std.proofs.Common.{◌≡◌, ℕ, None, Option}
use Rattle.sets.specs.Bounds.{first_of}
use Rattle.checks.specs.declared.faults.SealFault.{SealFault}
use Rattle.checks.specs.Cases.{FindsBy}
use Rattle.checks.proofs.search.first.Given as goal

abbrev pub invariant-loop-k : goal.invariant-loop-k
invariant-loop-k g l = goal.F-IsAlwaysCallable g l.check × ((f : ℕ → Option SealFault) → FindsBy l.n (goal.F-post g l.fn.check) f → first_of l.k f ≡ None)
