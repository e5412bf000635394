use Rattle.listed.proofs.Exactly.{exactly_after}
use Rattle.listed.proofs.listed.Listed.read.Goals as goal

pub returns-clause-exactly : goal.returns-clause-exactly
returns-clause-exactly g c = exactly_after g.S.Shape.make g.met.S.Shape.exact c.args.words.now _ _ _ c.keep.ensures.answer c.keep.ensures.after
