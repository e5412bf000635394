-- `places_at`: the places below are decided first, then one zone after another; off the floor nothing is covered.
use Rattle.std.proofs.Common.{◌≡◌, ℕ, ◌+◌, ◌<◌, ◌≤◌, Bool, length, sym, ap, ◌∙◌, subst, inl, inr, arith}
use Rattle.sets.specs.declared.Set64.{Set64}
use Rattle.plan.specs.Hall.{covers_at}
use Rattle.plan.proofs.Rows.{covers_past}
use Rattle.sets.proofs.Filled.{Filled, filled_with, filled_skip, filled_all}
use Rattle.zones.specs.Piles.{in_use, zone_hall}
use Rattle.zones.specs.PilesLemmas.{in_use_length, over_length, row_below, row_in_use, row_off}
use Rattle.zones.proofs.zones.answers.ZonesPlan.places_at.Goals as goal
use Rattle.zones.proofs.zones.answers.ZonesPlan.places_at.Goals.{then-at-width-via-then-at-width, then-at-width-via-else-at-width+then-at-height, then-holds, else-holds}

pub returns-then-at-width : goal.returns-then-at-width
returns-then-at-width g c =
    row_off (g.P.Plan.hall c.args.self.now.below) c.args.self.now.zones.records.items (g.met.P.Plan.few c.args.self.now.below) c.args.at.x c.args.at.y c.places_at-covering.result.bits
    (elim c.then-at-width.branch [ then-at-width-via-then-at-width w ↦ inl (omega arith) | then-at-width-via-else-at-width+then-at-height w ↦ inr (omega arith) ])
    c.places_at-covering.ensures

pub loop-k-init : goal.loop-k-init
loop-k-init g c =
    let h = g.P.Plan.hall c.args.self.now.below in
    let e : c.count-first.result + 0 ≡ length h.places = omega (arith, c.count-first.ensures) in
    rw e (row_below h c.args.self.now.zones.records.items (g.met.P.Plan.few c.args.self.now.below) c.args.at.x c.args.at.y c.places_at-covering.result.bits c.places_at-covering.ensures)

pub loop-k-preserved : goal.loop-k-preserved
loop-k-preserved g c =
    let h = g.P.Plan.hall c.args.self.now.below in
    let few = g.met.P.Plan.few c.args.self.now.below in
    let zs = c.args.self.now.zones.records.items in
    let f : ℕ → Bool = λ j. covers_at (zone_hall h zs) j c.args.at.x c.args.at.y in
    let k : ℕ = c.count-first.result + c.loop-k.k in
    let more : c.count-first.result + (c.loop-k.k + 1) ≡ k + 1 = omega arith in
    let is : c.holds.result ≡ f k = c.holds.ensures ∙ row_in_use h zs few c.loop-k.k k c.args.at.x c.args.at.y c.in_use-zone-items.result.now _ c.loop-k.covering.bits (omega arith) (omega arith) (omega (arith, c.count-first.ensures)) c.in_use-zone-items.ensures c.loop-k-test.true c.loop-k.invariant in
    let low : k < 64 = omega (arith, c.loop-k-test.true, c.count-first.ensures, ap length c.in_use-zone-items.ensures, in_use_length (length h.places) zs, few) in
    rw more
    (elim c.if-holds.branch [
      | then-holds w ↦ subst (λ (s : Set64). Filled f (k + 1) s.bits) (sym w.covering-is) (filled_with f k c.loop-k.covering.bits w.with-covering.result.bits low (sym is ∙ w.if-holds.true) w.with-covering.ensures c.loop-k.invariant)
      | else-holds w ↦ subst (λ (s : Set64). Filled f (k + 1) s.bits) (sym w.covering-is) (filled_skip f k c.loop-k.covering.bits (sym is ∙ w.if-holds.false) c.loop-k.invariant)
    ])

pub returns : goal.returns
returns g c =
    let h = g.P.Plan.hall c.args.self.now.below in
    let zs = c.args.self.now.zones.records.items in
    let n : length (zone_hall h zs).places ≤ c.count-first.result + c.loop-k.k = omega (arith, c.loop-k-test.false, c.count-first.ensures, ap length c.in_use-zone-items.ensures, over_length h.places (in_use (length h.places) zs)) in
    filled_all (λ j. covers_at (zone_hall h zs) j c.args.at.x c.args.at.y) (c.count-first.result + c.loop-k.k) c.loop-k.covering.bits c.loop-k.invariant (λ j m. covers_past (zone_hall h zs) c.args.at.x c.args.at.y j (omega arith))
