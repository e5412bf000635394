-- `session`: the guard is ready, so what is printed is told by the calls alone.
use Rattle.std.proofs.Common.{string_bytes, sym, subst}
use Rattle.std.proofs.lemmas.Result.{err_from_is_err_and}
use Rattle.benchrun.specs.Hall.{LacksMemory}
use Rattle.benchrun.proofs.Accepted.{handed_on, ready_prints}
use Rattle.benchrun.proofs.session.session.Goals as goal

pub returns-in_err-guard : goal.returns-in_err-guard
returns-in_err-guard c =
    let p = err_from_is_err_and c.from_residual.result c.from_residual.ensures.1 in
    handed_on _ c.from_residual.result _ p.0 p.1 (subst LacksMemory (sym p.2) c.in_err-guard.ensures)

pub returns-in_err-run_text : goal.returns-in_err-run_text
returns-in_err-run_text c =
    let p = err_from_is_err_and c.from_residual-in_err-run_text.result c.from_residual-in_err-run_text.ensures.1 in
    handed_on _ c.from_residual-in_err-run_text.result _ p.0 p.1 (subst LacksMemory (sym p.2) tt)

pub returns : goal.returns
returns c =
    ready_prints c.in_ok-guard.guard (string_bytes c.in_ok-run_text.field-0) c.args.input.now c.in_ok-guard.ensures c.in_ok-run_text.ensures.text
