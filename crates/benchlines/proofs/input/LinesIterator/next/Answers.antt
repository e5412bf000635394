-- `next`: the line in front, and the others.
use Rattle.std.proofs.Common.{ap, arith, length, rules}
use Rattle.benchlines.proofs.Feeds.{lines_cut}
use Rattle.benchlines.proofs.input.LinesIterator.next.Goals as goal

pub returns-clause-steps : goal.returns-clause-steps
returns-clause-steps c = lines_cut c.args.self.now.rest.now c.unwrap_or-end.result c.min.result c.if-is_empty.ensures (search rules) (search rules)

pub returns-clause-goes : goal.returns-clause-goes
returns-clause-goes c = let cut = lines_cut c.args.self.now.rest.now c.unwrap_or-end.result c.min.result c.if-is_empty.ensures (search rules) (search rules) in record { on = λ f. (tt, tt, omega (arith, ap length cut)); keeps = tt; rests = λ f. tt }
