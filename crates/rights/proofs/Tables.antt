-- Tables of 64 by 64 entries.
use Rattle.std.proofs.Common.{◌≡◌, ℕ, ◌<◌, ◌≤◌, Bool, false, ◌&&◌, ltb, sym, ap, ◌∙◌, ⊎_elim}
use Rattle.std.proofs.lemmas.Bool.{cases_lt, lt-ltb, le-ltb}

-- what does not hold of a number from 64 on is the same when asked of numbers below 64 alone
pub below_64 : (f : ℕ → ℕ → Bool) → ((i j : ℕ) → 64 ≤ i → f i j ≡ false) → ((i j : ℕ) → 64 ≤ j → f i j ≡ false) → (i j : ℕ) → (ltb i 64 && (ltb j 64 && f i j)) ≡ f i j
below_64 f high_i high_j i j =
    ⊎_elim
    (λ (il : i < 64).
    ap (λ (b : Bool). b && (ltb j 64 && f i j)) (lt-ltb i 64 il)
    ∙ ⊎_elim
    (λ (jl : j < 64). ap (λ (b : Bool). b && f i j) (lt-ltb j 64 jl))
    (λ (jl : 64 ≤ j). ap (λ (b : Bool). b && f i j) (le-ltb j 64 jl) ∙ sym (high_j i j jl))
    (cases_lt j 64))
    (λ (il : 64 ≤ i). ap (λ (b : Bool). b && (ltb j 64 && f i j)) (le-ltb i 64 il) ∙ sym (high_i i j il))
    (cases_lt i 64)
