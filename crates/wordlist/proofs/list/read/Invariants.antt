use Rattle.std.proofs.Common.{◌≡◌, ◌+◌, length}
use Rattle.wordlist.specs.Reading.{run}
use Rattle.wordlist.proofs.list.read.Given as goal

-- what is left, read from here, gives what the whole gives
abbrev pub invariant-loop-record : goal.invariant-loop-record
invariant-loop-record g l =
    let s = g.L.WordList.state in
    let left = l.record-iterator.left.now in
    (run g.L.WordList.rules (s l.initial.list) 0 l.words ≡ run g.L.WordList.rules (s l.list) l.record-iterator.index left)
    × (l.record-iterator.index + length left ≡ length l.words)
