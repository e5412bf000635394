-- `first`: the first number at which something is found ends the search.
use Rattle.std.proofs.Common.{◌≡◌, Some, sym, ◌∙◌, arith, rules}
use Rattle.std.specs.Result.{result_err}
use Rattle.sets.proofs.Bounds.{first_here}
use Rattle.checks.proofs.search.first.Goals as goal

pub returns-in_err-check : goal.returns-in_err-check
returns-in_err-check g c finds h =
    let e = c.in_err-check.field-0.0 in
    let ends : result_err c.from_residual.result ≡ Some e = search rules in
    let err : result_err c.check.result ≡ Some e = search rules in
    ends ∙ sym (first_here finds c.loop-k.k c.args.n e (omega arith) (c.loop-k.invariant.1 finds h) (sym (h c.loop-k.k c.check.result (omega arith) c.check.ensures) ∙ err))
