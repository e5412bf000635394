-- `answered`: want of memory, a refused sealing, and the answers.
use Rattle.std.proofs.Common.{Err, vec_items, refl, ap, ◌∙◌}
use Rattle.std.proofs.lemmas.Result.{err_from_is_err_and}
use Rattle.guard.specs.Runs.{answers_of}
use Rattle.guard.proofs.Running.{told_memory, told_fault, refused_run, from_new}
use Rattle.guard.proofs.guard.running.answered.Goals as goal

pub returns-in_err-guard : goal.returns-in_err-guard
returns-in_err-guard g c =
    let p = err_from_is_err_and c.from_residual.result c.from_residual.ensures.1 in
    told_memory (λ v. vec_items v) c.from_residual.result _ (p.1 ∙ ap Err p.2)

pub returns-in_err-seal : goal.returns-in_err-seal
returns-in_err-seal g c =
    let p = err_from_is_err_and c.from_residual-in_err-seal.result c.from_residual-in_err-seal.ensures.1 in
    let new = c.in_ok-guard.ensures in
    told_fault (λ v. vec_items v) c.from_residual-in_err-seal.result (answers_of (g.P.Plan.hall c.args.plan) c.args.words.now c.args.calls.now) _ (p.1 ∙ ap Err p.2)
    (refused_run g.P.Plan.hall c.args.plan c.in_ok-guard.guard c.args.words.now c.args.calls.now _ new.0 new.1 c.in_err-seal.ensures.seals.answered)

pub returns-in_err-replay : goal.returns-in_err-replay
returns-in_err-replay g c =
    let p = err_from_is_err_and c.from_residual-in_err-replay.result c.from_residual-in_err-replay.ensures.1 in
    told_memory (λ v. vec_items v) c.from_residual-in_err-replay.result _ (p.1 ∙ ap Err p.2)

pub returns : goal.returns
returns g c =
    let sealed = c.in_ok-seal.ensures in
    from_new g.P.Plan.hall c.args.plan c.in_ok-guard.guard c.seal.new.self _ c.args.words.now c.args.calls.now _
    c.in_ok-guard.ensures.0 sealed.seals.plan (sealed.begins refl) c.in_ok-replay.ensures.answers
