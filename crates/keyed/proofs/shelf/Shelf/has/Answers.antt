use Rattle.std.proofs.Common.{vec_items}
use Rattle.keyed.specs.Orders.{below}
use Rattle.keyed.proofs.Orders.{below_irreflexive, has_sure, has_value}
use Rattle.keyed.proofs.shelf.Shelf.has.Goals as goal

pub returns : goal.returns
returns g c =
    let cmp = g.R.Key.Ord.cmp in
    let less = below cmp in
    let key = g.R.Keyed.keyed in
    let xs = vec_items c.args.self.now.records in
    let ys = c.deref.result.now in
    let k = c.args.key.now in
    let f = c.find.ensures in
    record {
      sure = has_sure less key (below_irreflexive cmp g.met.R.Key.Ord.total) xs ys k c.find.result c.is_some.result c.deref.ensures.value c.is_some.ensures f.within f.same;
      value = has_value less key xs ys k c.find.result c.is_some.result c.deref.ensures.value c.is_some.ensures f.value;
    }
