-- Words that are written out are read back.
use Rattle.std.proofs.Common.{◌≡◌, ℕ, zero, suc, ◌+◌, ◌-◌, ◌*◌, ◌/◌, ◌%◌, ◌^◌, ◌<◌, ◌≤◌, false, ltb, leb, List, [], ◌∷◌, ◌++◌, length, Some, None, Ok, codes, Result, sym, refl, ap, ◌∙◌, ⊎_elim, mod-lt, pow-suc, div-add-mod', div-one, arith, lit<}
use native.Mathlib.Nat.{div-eq_of_lt, div-div-eq-div-mul}
use Rattle.std.proofs.lemmas.List.{append-nil, append_assoc}
use Rattle.std.proofs.lemmas.Slice.Eq.{bytes_eq-Decides}
use Rattle.std.proofs.lemmas.Bool.{cond-true, cond-false, cond_both, cases_lt, cases_Bool, eq-eqb, ne_eqb, le-leb, lt-leb, lt-ltb, le-ltb, and_from, and_right}
use Rattle.std.specs.Str.{bytes_eq}
use Rattle.plantext.specs.declared.faults.TextFault.{TextFault}
use Rattle.plantext.specs.Parts.{before, with_first, parts_of, filled, lines_of, said, words_of}
use Rattle.plantext.specs.Digits.{within, digit_of, with_digit, value_from, hex_of}
use Rattle.plantext.specs.Reading.{Content, and_then, named, by_heading, line_taken, lines_taken, on_line, with_word, text_of, read_of, answered}
use Rattle.plantext.specs.Writing.{digit_char, digits_of, word_lines, written, Words, drawing}

-- a digit's character reads as the digit
low_digit : (d : ℕ) → d < 10 → digit_of (digit_char d) ≡ Some d
low_digit d lt =
    let e : 48 + d - 48 ≡ d = omega arith in
    ap digit_of (cond-true _ (48 + d) (55 + d) (lt-ltb d 10 lt))
    ∙ cond-true (within 48 57 (48 + d)) _ _ (and_from _ _ (le-leb 48 (48 + d) (omega arith)) (le-leb (48 + d) 57 (omega arith)))
    ∙ ap Some e

high_digit : (d : ℕ) → 10 ≤ d → d < 16 → digit_of (digit_char d) ≡ Some d
high_digit d ge lt =
    let e : 55 + d - 65 + 10 ≡ d = omega arith in
    ap digit_of (cond-false _ (48 + d) (55 + d) (le-ltb d 10 ge))
    ∙ cond-false (within 48 57 (55 + d)) _ _ (and_right (leb 48 (55 + d)) _ (lt-leb (55 + d) 57 (omega arith)))
    ∙ cond-true (within 65 70 (55 + d)) _ _ (and_from _ _ (le-leb 65 (55 + d) (omega arith)) (le-leb (55 + d) 70 (omega arith)))
    ∙ ap Some e

char_digit : (d : ℕ) → d < 16 → digit_of (digit_char d) ≡ Some d
char_digit d lt = ⊎_elim (λ l. low_digit d l) (λ g. high_digit d g lt) (cases_lt d 10)

-- the digits of a word, after what stands before them, are the word
shifted : (w n : ℕ) → w / 16 ^ suc n * 16 + w / 16 ^ n % 16 ≡ w / 16 ^ n
shifted w n =
    ap (λ q. q * 16 + w / 16 ^ n % 16) (ap (λ p. w / p) (pow-suc 16 n) ∙ sym (div-div-eq-div-mul w (16 ^ n) 16))
    ∙ div-add-mod' (w / 16 ^ n) 16

value_digits : (n w : ℕ) → value_from (w / 16 ^ n) (digits_of n w) ≡ Ok w
value_digits zero w = ap Ok (div-one w)
value_digits (suc n) w =
    ap (λ o. with_digit o (λ d. value_from (w / 16 ^ suc n * 16 + d) (digits_of n w))) (char_digit (w / 16 ^ n % 16) (mod-lt (w / 16 ^ n) (lit< tt)))
    ∙ ap (λ v. value_from v (digits_of n w)) (shifted w n)
    ∙ value_digits n w

hex_digits : (w : ℕ) → w < 2 ^ 32 → hex_of (digits_of 8 w) ≡ Ok w
hex_digits w lt =
    let z : w / 16 ^ 8 ≡ 0 = div-eq_of_lt lt in
    ap (λ v. value_from v (digits_of 8 w)) (sym z) ∙ value_digits 8 w

-- bytes from `0` up are no line feed, no space and no `#`
abbrev Clear : List ℕ → Type 0
Clear [] = Unit {0}
Clear (b ∷ bs) = (48 ≤ b) × Clear bs

char_clear : (d : ℕ) → 48 ≤ digit_char d
char_clear d = cond_both (ltb d 10) (48 + d) (55 + d) (λ b. 48 ≤ b) (λ _. omega arith) (λ _. omega arith)

digits_clear : (n w : ℕ) → Clear (digits_of n w)
digits_clear zero w = tt
digits_clear (suc n) w = (char_clear (w / 16 ^ n % 16), digits_clear n w)

-- a part with no stop in it
parts_line : (b : ℕ) (l rest : List ℕ) → b < 48 → Clear l → parts_of b (l ++ b ∷ rest) ≡ l ∷ parts_of b rest
parts_line b [] rest lt h = cond-true _ _ _ (eq-eqb b b refl)
parts_line b (x ∷ xs) rest lt h =
    cond-false _ _ _ (ne_eqb x b (λ e. omega (arith, e, h.0)))
    ∙ ap (with_first x) (parts_line b xs rest lt h.1)

parts_whole : (b x : ℕ) (xs : List ℕ) → b < 48 → Clear (x ∷ xs) → parts_of b (x ∷ xs) ≡ (x ∷ xs) ∷ []
parts_whole b x [] lt h = cond-false _ _ _ (ne_eqb x b (λ e. omega (arith, e, h.0)))
parts_whole b x (y ∷ ys) lt h =
    cond-false _ _ _ (ne_eqb x b (λ e. omega (arith, e, h.0)))
    ∙ ap (with_first x) (parts_whole b y ys lt h.1)

before_whole : (b : ℕ) (l : List ℕ) → b < 48 → Clear l → before b l ≡ l
before_whole b [] lt h = refl
before_whole b (x ∷ xs) lt h =
    cond-false _ _ _ (ne_eqb x b (λ e. omega (arith, e, h.0)))
    ∙ ap (λ ys. x ∷ ys) (before_whole b xs lt h.1)

-- eight digits are one word, and not the name of a section
one_word : (w : ℕ) → words_of (said (digits_of 8 w)) ≡ digits_of 8 w ∷ []
one_word w =
    ap words_of (before_whole 35 (digits_of 8 w) (lit< tt) (digits_clear 8 w))
    ∙ ap filled (parts_whole 32 (digit_char (w / 16 ^ 7 % 16)) (digits_of 7 w) (lit< tt) (digits_clear 8 w))

other_length : (w : ℕ) (name : List ℕ) → length name < 8 → bytes_eq (digits_of 8 w) name ≡ false
other_length w name lt =
    ⊎_elim
    (λ same. absurd (let e : 8 ≡ length name = ap length ((bytes_eq-Decides (digits_of 8 w) name).0 same) in omega arith))
    (λ other. other)
    (cases_Bool (bytes_eq (digits_of 8 w) name))

unnamed : (w : ℕ) → named (digits_of 8 w) ≡ None
unnamed w =
    cond-false _ _ _ (other_length w (codes "drawn") (lit< tt))
    ∙ cond-false _ _ _ (other_length w (codes "cells") (lit< tt))
    ∙ cond-false _ _ _ (other_length w (codes "zones") (lit< tt))
    ∙ cond-false _ _ _ (other_length w (codes "policy") (lit< tt))

-- so a line of them adds the word
line_read : (w : ℕ) (vs : List ℕ) → w < 2 ^ 32 → line_taken (words_of (said (digits_of 8 w))) (drawing vs) ≡ Ok (drawing (vs ++ w ∷ []))
line_read w vs lt =
    ap (λ ws. line_taken ws (drawing vs)) (one_word w)
    ∙ ap (λ o. by_heading o (digits_of 8 w ∷ []) (drawing vs)) (unnamed w)
    ∙ ap (λ r. and_then (and_then r (λ n. Ok (with_word n (drawing vs)))) (λ c. Ok c)) (hex_digits w lt)

lines_read : (n : ℕ) (vs ws : List ℕ) → Words ws → lines_taken n (lines_of (word_lines ws)) (drawing vs) ≡ Ok (drawing (vs ++ ws))
lines_read n vs [] h = ap (λ us. Ok (drawing us)) (sym (append-nil vs))
lines_read n vs (w ∷ ws) h =
    ap (λ ls. lines_taken n ls (drawing vs)) (parts_line 10 (digits_of 8 w) (word_lines ws) (lit< tt) (digits_clear 8 w))
    ∙ ap (λ r. and_then (on_line n r) (λ c. lines_taken (n + 1) (lines_of (word_lines ws)) c)) (line_read w vs h.0)
    ∙ lines_read (n + 1) (vs ++ w ∷ []) ws h.1
    ∙ ap (λ us. Ok (drawing us)) (append_assoc vs (w ∷ []) ws)

pub text_read : (ws : List ℕ) → Words ws → text_of (written ws) ≡ Ok (drawing ws)
text_read ws h = lines_read 2 [] ws h

-- what a page holds and answers after it reads the text
pub page_read : (room : ℕ) (text ws : List ℕ) (c : Content) (r : Result (Unit {0}) TextFault) → (c, r) ≡ answered (read_of room text) → Words ws → text ≡ written ws → length text ≤ room → (c ≡ drawing ws) × (r ≡ Ok tt)
page_read room text ws c r e h is le =
    let a : answered (read_of room text) ≡ (drawing ws, Ok tt) = ap answered (cond-true _ _ _ (le-leb (length text) room le) ∙ ap text_of is ∙ text_read ws h) in
    (ap (λ p. p.0) (e ∙ a), ap (λ p. p.1) (e ∙ a))
