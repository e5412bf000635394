-- `places_at`: what its loop keeps true.
use Rattle.sets.proofs.Filled.{Filled}
use Rattle.plan.specs.Hall.{covers_at}
use Rattle.plan.proofs.Plan.places_at.Given as goal

-- the numbers below k are decided
abbrev pub invariant-loop-k : goal.invariant-loop-k
invariant-loop-k g l = Filled (λ k. covers_at (g.Self.Plan.hall l.self) k l.at.x l.at.y) l.k l.found.bits
