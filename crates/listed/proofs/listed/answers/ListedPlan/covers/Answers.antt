use Rattle.std.proofs.Common.{rules}
use Rattle.listed.proofs.Found.{covers_asked}
use Rattle.listed.proofs.listed.answers.ListedPlan.covers.Goals as goal

pub returns : goal.returns
returns g c =
    let sheet = c.args.self.now.sheet in
    covers_asked g.S.Shape.make.meaning g.S.Shape.model sheet.places.records.items c.records.result.now sheet.floor.width sheet.floor.height c.args.place c.records.ensures _ c.get.result c.is_some_and.result c.args.at.x c.args.at.y c.get.ensures.lookup c.is_some_and.ensures (λ p e. search rules) c.if-at-self.false c.if-at-self-2.false
