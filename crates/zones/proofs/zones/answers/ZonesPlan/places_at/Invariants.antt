-- `places_at`: what its loop keeps true.
use Rattle.std.proofs.Common.{◌+◌}
use Rattle.plan.specs.Hall.{covers_at}
use Rattle.sets.proofs.Filled.{Filled}
use Rattle.zones.specs.Piles.{zone_hall}
use Rattle.zones.proofs.zones.answers.ZonesPlan.places_at.Given as goal

-- the numbers below that of zone k are decided
abbrev pub invariant-loop-k : goal.invariant-loop-k
invariant-loop-k g l = Filled (λ j. covers_at (zone_hall (g.P.Plan.hall l.self.below) l.self.zones.records.items) j l.fn.at.x l.fn.at.y) (l.first + l.k) l.covering.bits
