use Rattle.policy.specs.Contents.{content_of}
use Rattle.policy.proofs.Exactly.{exactly_after}
use Rattle.policy.proofs.policy.Policy.read.Goals as goal

pub returns-clause-exactly : goal.returns-clause-exactly
returns-clause-exactly c = exactly_after c.args.words.now (content_of c.args.self.now.kept) (content_of c.keep.new.kept) c.keep.result c.keep.ensures.answer c.keep.ensures.after
