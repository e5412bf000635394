-- What a word of hexadecimal digits says.
use Rattle.std.specs.Prelude.{ℕ, ◌+◌, ◌-◌, ◌*◌, Bool, cond, ◌&&◌, List, [], ◌∷◌, length, Some, None, Ok, Err, Option, Result, nat_le, nat_lt}
use Rattle.plantext.specs.declared.faults.Reason.{Reason}
use Rattle.plantext.specs.declared.faults.Reason.TheVariants.{BadDigit, LongWord}

-- from a to z, both included
abbrev pub within : ℕ → ℕ → ℕ → Bool
within a z b = nat_le a b && nat_le b z

-- what a digit says: `0` to `9`, `A` to `F`, `a` to `f`
abbrev pub digit_of : ℕ → Option ℕ
digit_of b =
    cond (within 48 57 b) (Some (b - 48))
    (cond (within 65 70 b) (Some (b - 65 + 10))
    (cond (within 97 102 b) (Some (b - 97 + 10)) None))

-- goes on with the digit that was read
abbrev pub with_digit : Option ℕ → (ℕ → Result ℕ Reason) → Result ℕ Reason
with_digit None k = Err BadDigit
with_digit (Some d) k = k d

-- the digits after a number n that was read so far
abbrev pub value_from : ℕ → List ℕ → Result ℕ Reason
value_from n [] = Ok n
value_from n (b ∷ bs) = with_digit (digit_of b) (λ d. value_from (n * 16 + d) bs)

-- a word of at most 8 digits; one of more bytes is too long, whatever they are
abbrev pub hex_of : List ℕ → Result ℕ Reason
hex_of w = cond (nat_lt 8 (length w)) (Err LongWord) (value_from 0 w)
