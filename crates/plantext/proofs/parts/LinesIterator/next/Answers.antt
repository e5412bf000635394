-- `next`: the first line, and the lines after it.
use Rattle.std.proofs.Common.{length, ap, arith, rules}
use Rattle.plantext.proofs.Cuts.{line_next}
use Rattle.plantext.proofs.parts.LinesIterator.next.Goals as goal

pub returns : goal.returns
returns c =
    let e = line_next c.args.self.now.0.now c.cut.result.0.now c.cut.result.1.now (grind arith) c.cut.ensures.front c.cut.ensures.back in
    let d = ap length e in
    record { steps = e; goes = search rules }
