-- `cut`: the byte looked for is found, or not there.
use Rattle.std.proofs.Common.{◌≡◌, ◌+◌, Some, None, eqb, sym, ◌∙◌, rules}
use Rattle.std.specs.List.{position}
use Rattle.std.proofs.lemmas.Iterator.{YieldsList-from_slice}
use Rattle.std.proofs.lemmas.Iterator.Search.{position_from_yields_List}
use Rattle.std.proofs.lemmas.List.{take_rest}
use borrow.Author.Tests.{tests}
use Rattle.plantext.proofs.Cuts.{cut_before, cut_after, whole_before, none_after}
use Rattle.plantext.proofs.parts.cut.Goals as goal

pub returns-in-Some : goal.returns-in-Some
returns-in-Some c =
    let e : Some c.in-Some.i ≡ position (λ x. eqb x c.args.stop) c.args.bytes.now = sym c.in-Some.is ∙ position_from_yields_List (λ x. eqb x c.args.stop) c.position.new.self _ c.position.result c.position.ensures.ran (YieldsList-from_slice c.args.bytes.now cc) (λ x b q k. search (rules, tests)) in
    record {
      front = cut_before c.args.stop c.args.bytes.now c.in-Some.i e;
      back = take_rest c.args.bytes.now (c.in-Some.i + 1) ∙ cut_after c.args.stop c.args.bytes.now c.in-Some.i e;
    }

pub returns-in-None : goal.returns-in-None
returns-in-None c =
    let e : None ≡ position (λ x. eqb x c.args.stop) c.args.bytes.now = sym c.in-None.is ∙ position_from_yields_List (λ x. eqb x c.args.stop) c.position.new.self _ c.position.result c.position.ensures.ran (YieldsList-from_slice c.args.bytes.now cc) (λ x b q k. search (rules, tests)) in
    record {
      front = whole_before c.args.stop c.args.bytes.now e;
      back = none_after c.args.stop c.args.bytes.now e;
    }
