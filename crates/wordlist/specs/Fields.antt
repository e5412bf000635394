-- The fields of a word.
use Rattle.std.specs.Prelude.{ℕ, ◌/◌, ◌%◌, ◌^◌}

-- the n bits from bit `low` up
abbrev pub field : ℕ → ℕ → ℕ → ℕ
field low n w = w / 2 ^ low % 2 ^ n

-- bits 28 to 31
abbrev pub kind_of : ℕ → ℕ
kind_of w = w / 2 ^ 28
