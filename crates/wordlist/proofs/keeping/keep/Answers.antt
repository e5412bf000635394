-- `keep`: an accepted list gives what the draft read, a refused one leaves what was kept.
use Rattle.std.proofs.Common.{sym, ap, ◌∙◌}
use Rattle.wordlist.proofs.Outcomes.{given_answers, given_takes, given_leaves}
use Rattle.wordlist.proofs.keeping.keep.Goals.{then-is_ok, else-is_ok}
use Rattle.wordlist.proofs.keeping.keep.Goals as goal

pub returns : goal.returns
returns g c =
    let content = g.D.Drafted.content in
    let said = g.D.Drafted.said in
    let from = g.met.D.Drafted.reads c.args.ground _ _ c.read-answer.result c.args.words.now c.begin.ensures c.read-answer.ensures in
    record {
      answer = given_answers content _ _ _ from;
      after =
          elim c.if-is_ok.branch [
            | then-is_ok w ↦ ap said w.kept-is ∙ w.exchange.ensures ∙ given_takes content _ _ _ _ (sym c.is_ok.ensures.value ∙ w.if-is_ok.true) from
            | else-is_ok w ↦ ap said w.kept-is ∙ given_leaves content _ _ _ _ (sym c.is_ok.ensures.value ∙ w.if-is_ok.false) from
          ];
      draft = c.begin-2.ensures;
    }
