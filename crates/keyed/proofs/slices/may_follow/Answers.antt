use Rattle.std.proofs.Common.{ap, ◌∙◌, arith, ltb-false}
use Rattle.keyed.specs.Orders.{below}
use Rattle.keyed.proofs.Orders.{follows_last, less_below}
use Rattle.keyed.proofs.slices.may_follow.Goals as goal

pub returns-in-len1-up : goal.returns-in-len1-up
returns-in-len1-up g c =
    let cmp = g.R.Key.Ord.cmp in
    let k = c.args.key.now in
    c.lt.ensures ∙ less_below cmp g.R.Key.PartialOrd.partial_cmp g.met.R.Key.Ord.matches_partial_cmp _ _
    ∙ ap (λ a. below cmp a k) c.key.ensures
    ∙ follows_last (below cmp) g.R.Keyed.keyed c.args.records.now k c.last-item.result (omega (arith, ltb-false)) c.last-item.is
