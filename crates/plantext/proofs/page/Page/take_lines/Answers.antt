-- `take_lines`: the lines together are no longer than the text, and no line is longer without its comment.
use Rattle.std.proofs.Common.{◌≡◌, Ok, ap, length, sum_by, ◌∙◌, arith, rules}
use Rattle.std.proofs.lemmas.List.Sums.{sum_by-cons}
use Rattle.plantext.specs.Parts.{lines_of}
use Rattle.plantext.proofs.Counts.{few_parts, short_parts, short_before}
use Rattle.plantext.proofs.Turns.{line_on}
use Rattle.plantext.proofs.page.Page.take_lines.Goals as goal

pub take_line-requires : goal.take_line-requires
take_line-requires c =
    let t = short_parts 10 c.args.text.now in
    let s = ap (sum_by length) c.in-Some.ensures.steps ∙ sum_by-cons length c.in-Some.line.now (lines_of c.next.new.self.0.now) in
    let k = short_before 35 c.in-Some.line.now in
    let e = ap length c.cut.ensures.front in
    omega arith

pub overflow_add-number : goal.overflow_add-number
overflow_add-number c =
    let t = few_parts 10 c.args.text.now in
    omega (arith, ap length c.in-Some.ensures.steps)

pub loop-line-preserved : goal.loop-line-preserved
loop-line-preserved c =
    let s = ap (sum_by length) c.in-Some.ensures.steps ∙ sum_by-cons length c.in-Some.line.now (lines_of c.next.new.self.0.now) in
    let n = ap length c.in-Some.ensures.steps in
    let k = short_before 35 c.in-Some.line.now in
    let e = ap length c.cut.ensures.front in
    let t = c.take_line.ensures in
    let ok : c.take_line.result ≡ Ok tt = search rules in (
      line_on c.loop-line.number c.in-Some.line.now c.cut.result.0.now (lines_of c.next.new.self.0.now) _ _ _ c.take_line.result c.in-Some.ensures.steps c.cut.ensures.front t.content ok ∙ c.loop-line.invariant.0,
      omega arith,
      cc (t.room, c.loop-line.invariant.2),
      omega arith,
    )
