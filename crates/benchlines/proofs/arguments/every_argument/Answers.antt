-- `every_argument`: one argument more.
use Rattle.std.proofs.Common.{◌≡◌, ◌+◌, ◌-◌, ◌<◌, length, [], ◌∷◌, ◌++◌, take, ap, ◌∙◌, arith}
use Rattle.std.proofs.lemmas.List.{length-set, take_more_set}
use Rattle.benchlines.specs.Arguments.{arguments_of}
use Rattle.benchlines.proofs.Steps.{after, arguments_step}
use Rattle.benchlines.proofs.arguments.every_argument.Goals as goal

pub loop-number-preserved : goal.loop-number-preserved
loop-number-preserved g c =
    let at = c.loop-number.number-index in
    let left : g.row.N - (at + 1) ≡ g.row.N - at - 1 = omega arith in
    let n = c.in_ok-value.value in
    let rest = c.in_ok-value.after.now in
    let before = take at c.loop-number.number-items in
    let inside : at < length c.loop-number.number-items = omega (arith, c.loop-number.invariant.1) in (
      ap (λ ns. after ns (arguments_of c.args.most (g.row.N - (at + 1)) rest)) (take_more_set c.loop-number.number-items at n inside)
          ∙ ap (λ k. after (before ++ n ∷ []) (arguments_of c.args.most k rest)) left
          ∙ arguments_step before c.loop-number.rest.now c.args.most (g.row.N - at) (n, rest) (omega arith) c.in_ok-value.ensures
          ∙ c.loop-number.invariant.0,
      length-set c.loop-number.number-items at n ∙ c.loop-number.invariant.1,
    )
