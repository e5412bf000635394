use Rattle.std.proofs.Common.{rules}
use Rattle.listed.proofs.Found.{type_asked}
use Rattle.listed.proofs.listed.answers.ListedPlan.type_of.Goals as goal

pub returns : goal.returns
returns g c =
    let sheet = c.args.self.now.sheet in
    type_asked g.S.Shape.make.meaning g.S.Shape.model sheet.places.records.items c.records.result.now sheet.floor.width sheet.floor.height c.args.place c.records.ensures _ c.get.result c.map.result c.get.ensures.lookup c.map.ensures.cases (λ p t e. search rules)
