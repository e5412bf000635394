-- `places_at`: the set is filled one number after another, and no number past the count covers anything.
use Rattle.std.proofs.Common.{ℕ, ◌+◌, ◌<◌, Bool, sym, subst, arith}
use Rattle.sets.specs.declared.Set64.{Set64}
use Rattle.sets.proofs.Filled.{Filled, filled_none, filled_with, filled_skip, filled_all}
use Rattle.plan.specs.Hall.{covers_at}
use Rattle.plan.proofs.Rows.{covers_past}
use Rattle.plan.proofs.Plan.places_at.Goals.{then-covers, else-covers}
use Rattle.plan.proofs.Plan.places_at.Goals as goal

pub loop-k-init : goal.loop-k-init
loop-k-init g c = filled_none _ c.none-found.result.bits c.none-found.ensures

pub loop-k-preserved : goal.loop-k-preserved
loop-k-preserved g c =
    let f : ℕ → Bool = λ k. covers_at (g.Self.Plan.hall c.args.self.now) k c.args.at.x c.args.at.y in
    let few = g.met.Self.Plan.few c.args.self.now in
    let low : c.loop-k.k < 64 = omega arith in
    elim c.if-covers.branch [
      | then-covers w ↦ subst (λ (s : Set64). Filled f (c.loop-k.k + 1) s.bits) (sym w.found-is) (filled_with f c.loop-k.k c.loop-k.found.bits w.with-found.result.bits low (sym w.if-covers.ensures) w.with-found.ensures c.loop-k.invariant)
      | else-covers w ↦ subst (λ (s : Set64). Filled f (c.loop-k.k + 1) s.bits) (sym w.found-is) (filled_skip f c.loop-k.k c.loop-k.found.bits (sym w.if-covers.ensures) c.loop-k.invariant)
    ]

pub returns : goal.returns
returns g c =
    let h = g.Self.Plan.hall c.args.self.now in
    filled_all (λ k. covers_at h k c.args.at.x c.args.at.y) c.loop-k.k c.loop-k.found.bits c.loop-k.invariant (λ i l. covers_past h c.args.at.x c.args.at.y i (omega arith))
