-- Steps of reading a number digit by digit.
use Rattle.std.proofs.Common.{◌≡◌, ℕ, ◌+◌, ◌*◌, ◌^◌, ◌<◌, ◌≤◌, ap, ◌∙◌, pow-suc, add-one, arith, lit<}
use native.Mathlib.Nat.{pow-le-pow_right}

-- one digit more makes a number at most 16 times as large
grows : (v d i : ℕ) → v < 16 ^ i → d < 16 → v * 16 + d < 16 ^ (i + 1)
grows v d i lt small =
    let e : 16 ^ (i + 1) ≡ 16 ^ i * 16 = ap (λ k. 16 ^ k) (add-one i) ∙ pow-suc 16 i in
    omega arith

-- eight digits fit 32 bits
pub fits : (v d i : ℕ) → v < 16 ^ i → d < 16 → i < 8 → v * 16 + d < 2 ^ 32
fits v d i lt small few =
    let g = grows v d i lt small in
    let e : 16 ^ (i + 1) ≤ 16 ^ 8 = pow-le-pow_right {n = 16} (lit< tt) {i = i + 1} {j = 8} (omega arith) in
    omega arith
