use Rattle.std.proofs.Common.{◌≡◌, ℕ, ◌≤◌, length, map, take}
use Rattle.listed.proofs.parts.parts.Given as goal

-- a part for each of the words so far
abbrev pub invariant-loop-word : goal.invariant-loop-word
invariant-loop-word g l =
    (length l.parts.items ≡ l.word-index)
    × (length l.word-items ≤ 16)
    × ((said : _) → ((w : ℕ) (x : _) → goal.F-post g l.part w x → x ≡ said w) → l.parts.items ≡ map said (take l.word-index l.words.items))
