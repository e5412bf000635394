-- `type_of`: a number below the first zone is a place below, any other in use a zone.
use Rattle.std.proofs.Common.{◌∙◌, arith, rules}
use Rattle.zones.specs.PilesLemmas.{type_low}
use Rattle.zones.proofs.Asked.{type_asked}
use Rattle.zones.proofs.zones.answers.ZonesPlan.type_of.Goals as goal

pub returns-in-None : goal.returns-in-None
returns-in-None g c =
    c.type_of.ensures
    ∙ type_low (g.P.Plan.hall c.args.self.now.below) c.args.self.now.zones.records.items (g.met.P.Plan.few c.args.self.now.below) c.args.place (omega arith)

pub returns-in-Some : goal.returns-in-Some
returns-in-Some g c =
    type_asked (g.P.Plan.hall c.args.self.now.below) c.args.self.now.zones.records.items (g.met.P.Plan.few c.args.self.now.below) c.in_use.result.now c.in-Some.k c.args.place _ c.get.result c.map.result (omega arith) c.in_use.ensures c.get.ensures.lookup c.map.ensures.cases (λ p t e. search rules)
