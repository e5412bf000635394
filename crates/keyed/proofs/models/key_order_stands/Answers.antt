use Rattle.keyed.proofs.Orders.{below_irreflexive, below_transitive, below_total}
use Rattle.keyed.proofs.models.key_order_stands.Goals as goal

pub returns : goal.returns
returns g c =
    let cmp = g.K.Ord.cmp in
    let total = g.met.K.Ord.total in
    record { irreflexive = below_irreflexive cmp total; transitive = below_transitive cmp total; total = below_total cmp total g.met.K.KeyOrd.exact }
