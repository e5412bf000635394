-- `count`: the places below and the zones in use.
use Rattle.std.proofs.Common.{length, ap, arith}
use Rattle.zones.specs.PilesLemmas.{hall_length}
use Rattle.zones.proofs.zones.answers.ZonesPlan.count.Goals as goal

pub returns : goal.returns
returns g c =
    let h = g.P.Plan.hall c.args.self.now.below in
    omega (arith, c.count.ensures, ap length c.records.ensures, hall_length h c.args.self.now.zones.records.items (g.met.P.Plan.few c.args.self.now.below))
