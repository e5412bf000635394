-- `run_text`: each line adds what is printed for it.
use Rattle.std.proofs.Common.{◌≡◌, [], ◌∷◌, sym, string_bytes}
use Rattle.benchlines.specs.Input.{lines_of, left}
use Rattle.benchrun.proofs.Running.{one_more, all_printed}
use Rattle.benchrun.proofs.lines.run_text.Goals as goal

pub loop-line-preserved : goal.loop-line-preserved
loop-line-preserved g c =
    let rest = left c.next.new.self in
    let cut : c.in-Some.line.now ∷ rest ≡ left c.loop-line.line-iterator = sym (rw c.in-Some.is at c.next.ensures.steps) in
    one_more
    (λ p. g.P.Plan.hall p)
    c.args.guard.now
    c.loop-line.guard
    c.answer_to.new.guard
    (lines_of c.args.input.now)
    (string_bytes c.loop-line.out)
    (string_bytes c.answer_to.new.out)
    c.in-Some.line.now
    (left c.loop-line.line-iterator)
    rest
    cut
    c.loop-line.invariant
    c.in_ok-answer_to.ensures.site
    c.in_ok-answer_to.ensures.law

pub returns : goal.returns
returns g c =
    let v = c.args.guard.now in
    let over : left c.loop-line.line-iterator ≡ [] = (rw c.in-None.is at c.next.ensures.steps).0 in
    let all = all_printed (g.P.Plan.hall v.site.plan) v c.loop-line.guard c.args.input.now (string_bytes c.loop-line.out) (left c.loop-line.line-iterator) over c.if-is_long.ensures c.loop-line.invariant in
    record { text = λ ws p st. (all ws p st).0; after = λ ws p st. (all ws p st).1 }
