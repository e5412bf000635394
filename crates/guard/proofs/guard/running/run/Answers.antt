-- `run`: the answers, and the laws of every list of calls.
use Rattle.guard.proofs.Running.{lawful}
use Rattle.guard.proofs.guard.running.run.Goals as goal

pub returns : goal.returns
returns g c = record { answers = c.answered.ensures; law = lawful (g.P.Plan.hall c.args.plan) c.args.words.now }
