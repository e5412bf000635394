-- `next`: the first word, and the words after it.
use Rattle.std.proofs.Common.{◌≡◌, Some, None, eqb, not, length, sym, ap, ◌∙◌, rules}
use Rattle.std.specs.List.{position}
use Rattle.std.proofs.lemmas.Iterator.{YieldsList-from_slice}
use Rattle.std.proofs.lemmas.Iterator.Search.{position_from_yields_List}
use Rattle.std.proofs.lemmas.List.{take_rest}
use borrow.Author.Tests.{tests}
use Rattle.plantext.specs.Parts.{before, after}
use Rattle.plantext.proofs.Cuts.{word_next, word_none}
use Rattle.plantext.proofs.parts.LineWordsIterator.next.Goals as goal

pub returns-in_err-start : goal.returns-in_err-start
returns-in_err-start c =
    let line = c.args.self.now.0.now in
    let p : None ≡ position (λ x. not (eqb x 32)) line = sym c.in_err-start.was ∙ position_from_yields_List (λ x. not (eqb x 32)) c.position.new.self _ c.position.result c.position.ensures.ran (YieldsList-from_slice line cc) (λ x b q k. search (rules, tests)) in
    let e = word_none line p in
    search rules

pub returns : goal.returns
returns c =
    let line = c.args.self.now.0.now in
    let p : Some c.in_ok-start.start ≡ position (λ x. not (eqb x 32)) line = sym c.in_ok-start.was ∙ position_from_yields_List (λ x. not (eqb x 32)) c.position.new.self _ c.position.result c.position.ensures.ran (YieldsList-from_slice line cc) (λ x b q k. search (rules, tests)) in
    let e = word_next line c.in_ok-start.start c.cut.result.0.now c.cut.result.1.now p (c.cut.ensures.front ∙ ap (before 32) (take_rest line c.in_ok-start.start)) (c.cut.ensures.back ∙ ap (after 32) (take_rest line c.in_ok-start.start)) in
    let d = ap length e in
    record { steps = e; goes = search rules }
