-- `take_words`: no line has more words than bytes.
use Rattle.std.proofs.Common.{ap, length, arith}
use Rattle.plantext.proofs.Counts.{few_words}
use Rattle.plantext.proofs.page.Page.take_words.Goals as goal

pub take_word-requires : goal.take_word-requires
take_word-requires c =
    let w = few_words c.args.line.now in
    omega (arith, ap length c.in-Some.ensures.steps)

pub returns-in_err-take_word-clause-len : goal.returns-in_err-take_word-clause-len
returns-in_err-take_word-clause-len c =
    let w = few_words c.args.line.now in
    omega (arith, ap length c.in-Some.ensures.steps, c.in_err-take_word.ensures.len)

pub returns-clause-len : goal.returns-clause-len
returns-clause-len c = let w = few_words c.args.line.now in omega arith
