use Rattle.std.proofs.Common.{length, sym, ap, ◌∙◌}
use Rattle.std.proofs.lemmas.Result.{err_from_is_err_and}
use Rattle.wordlist.specs.Reading.{ended}
use Rattle.wordlist.proofs.Runs.{record_taken, record_refused}
use Rattle.wordlist.proofs.list.read.Goals as goal

pub loop-record-preserved : goal.loop-record-preserved
loop-record-preserved g c =
    let n = c.in-Some.ensures.steps in (
      c.loop-record.invariant.0 ∙ record_taken g.L.WordList.rules _ _ c.loop-record.record-iterator.index _ _ c.loop-record.record-iterator.left.now _ _ n.cut n.left n.index c.in_ok-take_record.ensures,
      n.index ∙ c.loop-record.invariant.1,
    )

pub returns-in_err-take_record : goal.returns-in_err-take_record
returns-in_err-take_record g c =
    let p = err_from_is_err_and c.from_residual.result c.from_residual.ensures.1 in
    let n = c.in-Some.ensures.steps in
    rw (p.1, p.2)
    (ap (ended g.L.WordList.rules (length c.args.words.now)) (record_refused g.L.WordList.rules _ _ c.loop-record.record-iterator.index _ c.loop-record.record-iterator.left.now _ n.cut c.in_err-take_record.ensures ∙ sym c.loop-record.invariant.0))
