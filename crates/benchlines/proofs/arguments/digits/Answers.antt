-- `digits`: one digit more carries the number on.
use Rattle.std.proofs.Common.{◌≡◌, ◌+◌, ◌-◌, ◌*◌, ap, ◌∙◌, arith}
use Rattle.benchlines.specs.Arguments.{digits_of}
use Rattle.benchlines.proofs.Steps.{digits_step}
use Rattle.benchlines.proofs.arguments.digits.Goals as goal

pub loop-preserved : goal.loop-preserved
loop-preserved c =
    let left : c.args.most - (c.loop.counter + 1) ≡ c.args.most - c.loop.counter - 1 = omega arith in
    let value : c.in_ok-number.number ≡ c.loop.number * 10 + c.in-Some.digit = omega (arith, c.in_ok-checked_mul.ensures, c.in_ok-number.ensures) in
    ap (λ n. digits_of n c.in_ok-number.number c.in-Some.after.now) left
    ∙ ap (λ n. digits_of (c.args.most - c.loop.counter - 1) n c.in-Some.after.now) value
    ∙ digits_step c.loop.rest.now c.in-Some.after.now (c.args.most - c.loop.counter) c.loop.number c.in-Some.digit (omega arith) c.in-Some.ensures.value (omega (arith, c.in_ok-checked_mul.ensures, c.in_ok-number.ensures))
    ∙ c.loop.invariant
