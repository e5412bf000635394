use Rattle.std.proofs.Common.{◌≡◌, rules, ◌∙◌}
use Rattle.std.proofs.lemmas.List.Sorted.{answers_always}
use Rattle.std.specs.Ordering.{partial_lt}
use Rattle.keyed.specs.Orders.{below}
use Rattle.keyed.proofs.Orders.{rising_answer, less_below}
use Rattle.keyed.proofs.slices.all_rise.Goals as goal

pub returns : goal.returns
returns g c =
    let less = below g.R.Key.Ord.cmp in
    let key = g.R.Keyed.keyed in
    rising_answer less key c.args.records.now c.is_sorted_by.result
    (c.is_sorted_by.ensures.cases (λ x y. less (key x) (key y)) (answers_always _ _ _ (λ f a r f' called.
    let e : r ≡ partial_lt g.R.Key.PartialOrd.partial_cmp (key a.0.now) (key a.1.0.now) = search rules in
    e ∙ less_below g.R.Key.Ord.cmp g.R.Key.PartialOrd.partial_cmp g.met.R.Key.Ord.matches_partial_cmp _ _)))
