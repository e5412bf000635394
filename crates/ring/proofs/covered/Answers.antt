-- `covered`: each turn takes one edge off the ring.
use Rattle.std.proofs.Common.{◌≡◌, ℕ, ◌%◌, eqb, sym, refl, ap, ◌∙◌, arith}
use Rattle.std.proofs.lemmas.Bool.{ltb-true, leb-true}
use Rattle.ring.specs.Ring.{last_of, crossings}
use Rattle.ring.proofs.Rings.{on_skip, on_here, cross_yes, cross_no, covers_on, covers_off, covers_none, on_end, cross_end}
use Rattle.ring.proofs.covered.Goals.{then-crossed, else-crossed}
use Rattle.ring.proofs.covered.Goals as goal

pub returns-in_default : goal.returns-in_default
returns-in_default c = covers_none c.args.corners.now c.args.at.x c.args.at.y (omega (arith, ltb-true, leb-true))

pub returns-then-contains : goal.returns-then-contains
returns-then-contains c =
    let on = on_here c.loop-to.from c.args.corners.now c.loop-to.to-index c.args.at.x c.args.at.y c.loop-to-test.true (sym c.if-contains.ensures) in
    covers_on c.args.corners.now (last_of c.args.corners.now) c.args.at.x c.args.at.y refl (sym c.loop-to.invariant.0 ∙ on)

pub loop-to-preserved : goal.loop-to-preserved
loop-to-preserved c =
    let on = on_skip c.loop-to.from c.args.corners.now c.loop-to.to-index c.args.at.x c.args.at.y c.loop-to-test.true (sym c.if-contains.ensures) in (
      sym on ∙ c.loop-to.invariant.0,
      elim c.if-crossed.branch [
        | then-crossed w ↦
            let more = cross_yes c.loop-to.from c.args.corners.now c.loop-to.to-index c.args.at.x c.args.at.y c.loop-to-test.true (sym w.if-crossed.ensures) in
            omega arith
        | else-crossed w ↦
            let more = cross_no c.loop-to.from c.args.corners.now c.loop-to.to-index c.args.at.x c.args.at.y c.loop-to-test.true (sym w.if-crossed.ensures) in
            omega arith
      ],
      elim c.if-crossed.branch [ then-crossed w ↦ omega arith | else-crossed w ↦ omega arith ],
    )

pub returns : goal.returns
returns c =
    let end = cross_end c.loop-to.from c.args.corners.now c.loop-to.to-index c.args.at.x c.args.at.y c.loop-to-test.false in
    let off = on_end c.loop-to.from c.args.corners.now c.loop-to.to-index c.args.at.x c.args.at.y c.loop-to-test.false in
    let all : c.loop-to.count ≡ crossings (last_of c.args.corners.now) c.args.corners.now c.args.at.x c.args.at.y = omega arith in
    ap (λ (n : ℕ). eqb (n % 2) 1) all ∙ covers_off c.args.corners.now (last_of c.args.corners.now) c.args.at.x c.args.at.y refl (sym c.loop-to.invariant.0 ∙ off)
