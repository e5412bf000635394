use Rattle.std.proofs.Common.{◌≡◌, ℕ, length}
use Rattle.listed.proofs.Padded.{Filling}
use Rattle.listed.proofs.parts.padded_parts.Given as goal

-- a part for each of the words so far, and then what zero says
abbrev pub invariant-loop-k : goal.invariant-loop-k
invariant-loop-k g l =
    (length l.parts ≡ 16)
    × ((said : _) → ((w : ℕ) (x : _) → goal.F-post g l.part w x → x ≡ said w) → Filling said l.k l.parts l.words.items)
