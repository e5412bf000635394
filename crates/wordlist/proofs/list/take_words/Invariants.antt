use Rattle.std.proofs.Common.{◌≡◌, ◌+◌, drop}
use Rattle.wordlist.specs.Reading.{run}
use Rattle.wordlist.proofs.list.take_words.Given as goal

abbrev pub invariant-loop-i : goal.invariant-loop-i
invariant-loop-i g l =
    let s = g.L.WordList.state in
    run g.L.WordList.rules (s l.initial.list) l.first l.words ≡ run g.L.WordList.rules (s l.list) (l.first + l.i) (drop l.i l.words)
