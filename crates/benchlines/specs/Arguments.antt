-- The arguments of a line.
use Rattle.std.specs.Prelude.{ℕ, zero, suc, ◌+◌, ◌-◌, ◌*◌, cond, ◌&&◌, List, [], ◌∷◌, drop, Some, None, Option, ◌==◌, nat_le}
use Rattle.std.specs.Borrow.{Bor}

-- no number is greater
abbrev pub most_number : ℕ
most_number = 65535

abbrev pub space : ℕ
space = 32

-- k of what is there, if anything is
abbrev pub and_then : {X Y : Type 0} → Option X → (X → Option Y) → Option Y
and_then None k = None
and_then (Some x) k = k x

-- what a byte from 0 to 9 is worth
abbrev pub worth_of : ℕ → Option ℕ
worth_of b = cond (nat_le 48 b && nat_le b 57) (Some (b - 48)) None

-- the digit in front
abbrev pub digit_of : List ℕ → Option ℕ
digit_of [] = None
digit_of (b ∷ bs) = worth_of b

-- x where there is nothing, else k of what is there
abbrev pub or_else : {X Y : Type 0} → Option X → Y → (X → Y) → Y
or_else None x k = x
or_else (Some d) x k = k d

-- the number so far, n, carried on by the digits in front, at most so many of them; and what is left
abbrev pub digits_of : ℕ → ℕ → List ℕ → Option (ℕ × List ℕ)
digits_of zero n bs = Some (n, bs)
digits_of (suc most) n bs =
    or_else (digit_of bs) (Some (n, bs)) (λ d. cond (nat_le (n * 10 + d) most_number) (digits_of most (n * 10 + d) (drop 1 bs)) None)

-- the argument in front, one space and one digit or more, at most so many; and what is left
abbrev pub argument_of : ℕ → List ℕ → Option (ℕ × List ℕ)
argument_of most [] = None
argument_of most (b ∷ bs) = cond (b == space) (and_then (digit_of bs) (λ d. digits_of most 0 bs)) None

-- just n arguments, and nothing after them
abbrev pub arguments_of : ℕ → ℕ → List ℕ → Option (List ℕ)
arguments_of most zero [] = Some []
arguments_of most zero (b ∷ bs) = None
arguments_of most (suc n) bs = and_then (argument_of most bs) (λ a. and_then (arguments_of most n a.1) (λ ns. Some (a.0 ∷ ns)))

-- a number and what is left after it, as its bytes
abbrev pub leaving : Option (ℕ × Bor (List ℕ)) → Option (ℕ × List ℕ)
leaving None = None
leaving (Some a) = Some (a.0, a.1.now)
