-- `report`: the event is taken.
use Rattle.std.proofs.Common.{refl}
use Rattle.calls.specs.declared.call.Event.TheVariants.{Report}
use Rattle.guard.proofs.Performed.{tells_on}
use Rattle.guard.proofs.guard.Guard.report.Goals as goal

pub returns : goal.returns
returns g c =
    let v = c.args.self.now in
    let done-so = c.take.ensures in
    let both = tells_on (g.P.Plan.hall v.site.plan) v c.take.new.self c.args.badge (Report c.args.at) c.take.result refl done-so.refused done-so.site done-so.kept in
    record { performs = both.0; law = both.1 }
