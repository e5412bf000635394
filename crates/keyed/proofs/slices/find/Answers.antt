use Rattle.std.proofs.Common.{◌≡◌, ◌+◌, ◌-◌, ◌/◌, ◌<◌, length, ap, arith}
use Rattle.std.specs.declared.cmp.Ordering.TheVariants.{Less, Equal, Greater}
use Rattle.std.specs.Ordering.{is_lt}
use Rattle.keyed.specs.Orders.{below}
use Rattle.keyed.proofs.Orders.{low_more, high_more, found, missing, below_transitive, tie_alike, turned}
use Rattle.keyed.proofs.slices.find.Goals as goal

pub loop-low-preserved-in-Less : goal.loop-low-preserved-in-Less
loop-low-preserved-in-Less g c =
    let cmp = g.R.Key.Ord.cmp in
    let key = g.R.Keyed.keyed in
    let trans = below_transitive cmp g.met.R.Key.Ord.total in
    let x = c.index-records-mid.result in
    let mid = c.loop-low.low + (c.loop-low.high - c.loop-low.low) / 2 in
    let lt : mid < length c.args.records.now = omega arith in
    let e : cmp (key x) c.args.key.now ≡ Less = cc (c.key.ensures, c.cmp.ensures, c.in-Less.is) in (
      c.loop-low.invariant.0,
      λ up. low_more (below cmp) key trans c.args.records.now c.args.key.now mid x up lt c.index-records-mid.is (ap is_lt e),
      c.loop-low.invariant.2,
    )

pub loop-low-preserved : goal.loop-low-preserved
loop-low-preserved g c =
    let cmp = g.R.Key.Ord.cmp in
    let key = g.R.Keyed.keyed in
    let total = g.met.R.Key.Ord.total in
    let x = c.index-records-mid.result in
    let mid = c.loop-low.low + (c.loop-low.high - c.loop-low.low) / 2 in
    let lt : mid < length c.args.records.now = omega arith in
    let e : cmp (key x) c.args.key.now ≡ Greater = cc (c.key.ensures, c.cmp.ensures, c.in-Greater.is) in (
      omega arith,
      c.loop-low.invariant.1,
      λ up. high_more (below cmp) key (below_transitive cmp total) c.args.records.now c.args.key.now mid x up lt c.index-records-mid.is (turned cmp total _ _ e),
    )

pub returns-in-Equal-clause-value : goal.returns-in-Equal-clause-value
returns-in-Equal-clause-value g c =
    let cmp = g.R.Key.Ord.cmp in
    let key = g.R.Keyed.keyed in
    let total = g.met.R.Key.Ord.total in
    let x = c.index-records-mid.result in
    let mid = c.loop-low.low + (c.loop-low.high - c.loop-low.low) / 2 in
    let lt : mid < length c.args.records.now = omega arith in
    let e : cmp (key x) c.args.key.now ≡ Equal = cc (c.key.ensures, c.cmp.ensures, c.in-Equal.is) in
    λ up. found (below cmp) key (below_transitive cmp total) c.args.records.now c.args.key.now mid x up lt c.index-records-mid.is (g.met.R.Key.KeyOrd.exact _ _ e) (tie_alike cmp total _ _ e)

pub returns-clause-value : goal.returns-clause-value
returns-clause-value g c =
    let cmp = g.R.Key.Ord.cmp in
    λ up. missing (below cmp) g.R.Keyed.keyed (below_transitive cmp g.met.R.Key.Ord.total) c.args.records.now c.args.key.now c.loop-low.low c.loop-low.high c.loop-low-test.false (c.loop-low.invariant.1 up) (c.loop-low.invariant.2 up)
