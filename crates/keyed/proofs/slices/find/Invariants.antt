use Rattle.std.proofs.Common.{◌≡◌, ◌-◌, ◌≤◌, true, length}
use Rattle.keyed.specs.Orders.{below, rising}
use Rattle.keyed.proofs.Orders.{Before, After}
use Rattle.keyed.proofs.slices.find.Given as goal

abbrev pub invariant-loop-low : goal.invariant-loop-low
invariant-loop-low g l =
    let less = below g.R.Key.Ord.cmp in
    let key = g.R.Keyed.keyed in
    (l.high ≤ length l.records)
    × (rising less key l.records ≡ true → Before less key l.records l.key l.low)
    × (rising less key l.records ≡ true → After less key l.records l.key l.high)

abbrev pub decreases-loop-low : goal.decreases-loop-low
decreases-loop-low g l = l.high - l.low
