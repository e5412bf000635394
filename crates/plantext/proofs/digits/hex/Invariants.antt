-- `hex`: what its loop keeps true.
use Rattle.std.proofs.Common.{◌≡◌, ◌^◌, ◌<◌, drop}
use Rattle.plantext.specs.Digits.{value_from}
use Rattle.plantext.proofs.digits.hex.Given as goal

-- what is left, read on from the value so far, gives what the whole gives
abbrev pub invariant-loop-byte : goal.invariant-loop-byte
invariant-loop-byte l = (value_from l.value (drop l.byte-index l.word) ≡ value_from 0 l.word) × (l.value < 16 ^ l.byte-index)
