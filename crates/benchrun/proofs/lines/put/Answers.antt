-- `put`: the call is performed.
use Rattle.benchlines.specs.Lines.{line_call}
use Rattle.benchrun.proofs.Putting.{goes_on}
use Rattle.benchrun.proofs.lines.put.Goals as goal

pub returns-clause-law : goal.returns-clause-law
returns-clause-law g c =
    let v = c.args.guard.now in
    goes_on (g.P.Plan.hall v.site.plan) v c.perform.new.self c.in_ok-call.call c.perform.result (line_call c.args.line.now) c.in_ok-call.ensures c.perform.ensures.law
