-- `covered`: what its loop keeps true.
use Rattle.std.proofs.Common.{◌≡◌, ◌+◌, ◌≤◌, drop}
use Rattle.ring.specs.Ring.{on_some, crossings}
use Rattle.ring.proofs.covered.Given as goal

-- what is left of the ring from here tells the same as the whole ring
abbrev pub invariant-loop-to : goal.invariant-loop-to
invariant-loop-to l =
    (on_some l.from (drop l.to-index l.corners) l.at.x l.at.y ≡ on_some l.initial.from l.corners l.at.x l.at.y)
    × (l.count + crossings l.from (drop l.to-index l.corners) l.at.x l.at.y ≡ crossings l.initial.from l.corners l.at.x l.at.y)
    × (l.count ≤ l.to-index)
