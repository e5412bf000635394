use Rattle.std.proofs.Common.{vec_items, ap, ◌∙◌, rules}
use Rattle.keyed.specs.Orders.{below, rising}
use Rattle.keyed.proofs.Orders.{rising_placed}
use Rattle.keyed.proofs.rising.Rising.put.Goals as goal

pub invariant_of-self : goal.invariant_of-self
invariant_of-self g c =
    let less = below g.R.Key.Ord.cmp in
    let key = g.R.Keyed.keyed in
    let self = c.args.self.now in
    record { rise = ap (rising less key) c.put.ensures ∙ rising_placed less key g.row.MOST (vec_items self.shelf.records) c.args.record self.rise (search rules) }
