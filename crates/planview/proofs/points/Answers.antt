-- `points`: a floor has at most 256 rows, and a row at most 256 points.
use Rattle.std.proofs.Common.{arith, rules}
use Rattle.std.proofs.lemmas.Iterator.{YieldsList-from_range}
use Rattle.std.proofs.lemmas.Iterator.Consumers.{YieldsList-at}
use Rattle.std.proofs.lemmas.Iterator.Adapters.{fits_from_length, at_most_from_yields_List}
use Rattle.std.proofs.lemmas.List.FromFn.{length-range_with_len}
use borrow.Author.Tests.{tests}
use Rattle.planview.proofs.points.Goals as goal

pub sum-requires-clause-fits : goal.sum-requires-clause-fits
sum-requires-clause-fits g c =
    let f = g.met.P.Plan.floor c.args.plan.now in
    fits_from_length _ _ 256 _ (at_most_from_yields_List (YieldsList-at c.map.ensures.source (YieldsList-from_range 0 c.height.result c.height.result (search rules) (omega arith))) (simp length-range_with_len (omega (arith, f, c.height.ensures)))) c.map.ensures.closure (omega arith) (λ x r q k. search (rules, tests))
