-- `hex`: a digit is added to the number, which eight digits keep below 2 ^ 32.
use Rattle.std.proofs.Common.{◌<◌, arith, rules}
use Rattle.plantext.proofs.Numbers.{fits}
use Rattle.plantext.proofs.digits.hex.Goals as goal

pub overflow_mul-value : goal.overflow_mul-value
overflow_mul-value c = let f = fits c.loop-byte.value 0 c.loop-byte.byte-index c.loop-byte.invariant.1 (omega arith) (omega arith) in omega arith

pub overflow_add-value : goal.overflow_add-value
overflow_add-value c = let small : c.in_ok-digit.digit < 16 = search rules in let f = fits c.loop-byte.value c.in_ok-digit.digit c.loop-byte.byte-index c.loop-byte.invariant.1 small (omega arith) in omega arith
