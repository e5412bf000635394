-- A word in sixteen hexadecimal digits is what its digits are, with zeros in front.
use Rattle.std.proofs.Common.{◌≡◌, ℕ, zero, suc, ◌+◌, ◌-◌, ◌*◌, ◌/◌, ◌%◌, ◌^◌, ◌<◌, ◌≤◌, true, false, eqb, List, [], ◌∷◌, ◌++◌, length, replicate, refl, sym, ap, ◌∙◌, ⊎_elim, pow-suc, arith}
use Rattle.std.specs.Fmt.{digits, digits_onto, padded_integral, format_spec, char_count}
use Rattle.std.proofs.Math.Nat.{div-div-eq-div-mul, zero-div}
use Rattle.std.proofs.lemmas.Nat.{pow-add}
use Rattle.std.proofs.lemmas.List.{append_assoc, append-nil}
use Rattle.std.proofs.lemmas.Bool.{cases_Bool, cond-true, cond-false, eqb-true, eqb-false}
use Rattle.benchlines.specs.Answers.{glyph, hex}

-- the same digit of the word without its last one
same_digit : (k w : ℕ) → w / 2 ^ (4 * suc k) ≡ w / 16 / 2 ^ (4 * k)
same_digit k w =
    let four : 4 * suc k ≡ 4 + 4 * k = omega arith in
    ap (λ n. w / 2 ^ n) four ∙ ap (λ n. w / n) (pow-add 2 4 (4 * k)) ∙ sym (div-div-eq-div-mul w 16 (2 ^ (4 * k)))

-- the digits of the word without the last one, and the last one
hex_push : (k w : ℕ) → hex (suc k) w ≡ hex k (w / 16) ++ glyph (w % 16) ∷ []
hex_push zero w = let one : w / 1 % 16 ≡ w % 16 = omega arith in ap (λ d. glyph d ∷ []) one
hex_push (suc k) w =
    ap (λ d. glyph (d % 16) ∷ hex (suc k) w) (same_digit k w) ∙ ap (λ ds. glyph (w / 16 / 2 ^ (4 * k) % 16) ∷ ds) (hex_push k w)

-- of nothing there are zeros
hex_zeros : (k : ℕ) → hex k 0 ≡ replicate k 48
hex_zeros zero = refl
hex_zeros (suc k) = ap (λ d. glyph (d % 16) ∷ hex k 0) (zero-div (2 ^ (4 * k))) ∙ ap (λ ds. 48 ∷ ds) (hex_zeros k)

-- n digits at least: those there are, with zeros in front
abbrev filled : ℕ → List ℕ → List ℕ
filled n ds = replicate (n - length ds) 48 ++ ds

-- the digits of the word onto others, filled
hex_onto : (k f w : ℕ) (acc : List ℕ) → 0 < k → k ≤ f → w < 16 ^ k → filled (k + length acc) (digits_onto f 16 false w acc) ≡ hex k w ++ acc
hex_onto zero f w acc l m s = absurd (omega arith)
hex_onto (suc k) zero w acc l m s = absurd (omega arith)
hex_onto (suc k) (suc f) w acc l m s =
    ⊎_elim
    (λ (e : eqb (w / 16) 0 ≡ true).
    let none : w / 16 ≡ 0 = eqb-true (w / 16) 0 e in
    let room : suc k + length acc - suc (length acc) ≡ k = omega arith in
    ap (filled (suc k + length acc)) (cond-true (eqb (w / 16) 0) _ _ e)
    ∙ ap (λ n. replicate n 48 ++ glyph (w % 16) ∷ acc) room
    ∙ ap (λ ds. ds ++ glyph (w % 16) ∷ acc) (sym (hex_zeros k) ∙ ap (hex k) (sym none)) ∙ pushed)
    (λ (e : eqb (w / 16) 0 ≡ false).
    let some : w / 16 ≡ 0 → ⊥ = eqb-false (w / 16) 0 e in
    let same : suc k + length acc ≡ k + suc (length acc) = omega arith in
    ap (filled (suc k + length acc)) (cond-false (eqb (w / 16) 0) _ _ e)
    ∙ ap (λ n. filled n (digits_onto f 16 false (w / 16) (glyph (w % 16) ∷ acc))) same
    ∙ hex_onto k f (w / 16) (glyph (w % 16) ∷ acc) (more k some s) (omega arith) (less k s) ∙ pushed)
    (cases_Bool (eqb (w / 16) 0))
  where
    pushed : hex k (w / 16) ++ glyph (w % 16) ∷ acc ≡ hex (suc k) w ++ acc
    pushed = sym (append_assoc (hex k (w / 16)) (glyph (w % 16) ∷ []) acc) ∙ ap (λ ds. ds ++ acc) (sym (hex_push k w))

    more : (n : ℕ) → (w / 16 ≡ 0 → ⊥) → w < 16 ^ suc n → 0 < n
    more zero some s = absurd (some (omega arith))
    more (suc n) some s = omega arith

    less : (n : ℕ) → w < 16 ^ suc n → w / 16 < 16 ^ n
    less n s = omega (arith, pow-suc 16 n)

-- what a hole of sixteen digits with zeros in front writes
padded : (ds : List ℕ) → padded_integral (format_spec 32 0 4 16 (2 ^ 64 - 1)) false [] ds ≡ filled 16 ds
unfolding padded_integral char_count
padded ds = let e : 16 - length ds - 0 - 0 ≡ 16 - length ds = omega arith in rw (e, append-nil ds)

onto : (w : ℕ) → digits 16 false w ≡ digits_onto 64 16 false w []
unfolding digits
onto w = refl

pub hex_word : (w : ℕ) → w < 2 ^ 64 → padded_integral (format_spec 32 0 4 16 (2 ^ 64 - 1)) false [] (digits 16 false w) ≡ hex 16 w
hex_word w small = padded (digits 16 false w) ∙ ap (filled 16) (onto w) ∙ hex_onto 16 64 w [] (omega arith) (omega arith) small ∙ append-nil (hex 16 w)
