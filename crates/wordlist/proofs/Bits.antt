-- A field that reaches past the 32 bits of a word.
use Rattle.std.proofs.Common.{◌≡◌, ℕ, ◌/◌, ◌%◌, ◌^◌, ◌<◌, ◌≤◌, sym, ap, ◌∙◌, mod-eq_of_lt, arith, pow_pos, pow_mono}
use native.Mathlib.Nat.{div-eq_of_lt}
use lib.Pow.{shr_le}
use Rattle.wordlist.specs.Fields.{field}

pub field_above : (w low n : ℕ) → w < 2 ^ 32 → 32 ≤ low → 0 ≡ field low n w
field_above w low n fits past =
    let none : w / 2 ^ low ≡ 0 = div-eq_of_lt (omega (arith, pow_mono past)) in
    sym (ap (λ q. q % 2 ^ n) none ∙ mod-eq_of_lt (pow_pos n))

pub field_rest : (w low n : ℕ) → w < 2 ^ 32 → 32 ≤ n → w / 2 ^ low ≡ field low n w
field_rest w low n fits past = sym (mod-eq_of_lt (omega (arith, pow_mono past, shr_le w low)))
