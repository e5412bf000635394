-- Cutting a text at a byte, and a line into words.
use Rattle.std.proofs.Common.{◌≡◌, ℕ, suc, ◌+◌, ◌<◌, ◌≤◌, Bool, true, false, cond, not, eqb, ltb, List, [], ◌∷◌, length, get_or, take, drop, length-drop, get_or-drop, add-zero, Some, None, sym, refl, ap, ◌∙◌, arith}
use Rattle.std.specs.List.{position, position_or_len}
use Rattle.std.proofs.lemmas.List.{take_all, drop_all}
use Rattle.std.proofs.lemmas.List.Quantifiers.{position-Some}
use Rattle.std.proofs.lemmas.Bool.{ltb-false, cond-true, cond-false}
use Rattle.plantext.specs.Parts.{before, after, lines_of, with_first, parts_of, filled, words_of}

-- what stands before and after the first stop, by its place
before_step : (t : Bool) (x n : ℕ) (xs : List ℕ) → cond t [] (x ∷ take n xs) ≡ take (cond (not t) (1 + n) 0) (x ∷ xs)
before_step true x n xs = refl
before_step false x n xs = let e : 1 + n ≡ suc n = omega arith in rw e

before_place : (b : ℕ) (xs : List ℕ) → before b xs ≡ take (position_or_len (λ x. eqb x b) xs) xs
before_place b [] = refl
before_place b (x ∷ xs) =
    ap (λ ys. cond (eqb x b) [] (x ∷ ys)) (before_place b xs)
    ∙ before_step (eqb x b) x (position_or_len (λ x. eqb x b) xs) xs

after_step : (t : Bool) (x n : ℕ) (xs : List ℕ) → cond t xs (drop (n + 1) xs) ≡ drop (cond (not t) (1 + n) 0 + 1) (x ∷ xs)
after_step true x n xs = refl
after_step false x n xs = let e : 1 + n + 1 ≡ suc (n + 1) = omega arith in rw e

after_place : (b : ℕ) (xs : List ℕ) → after b xs ≡ drop (position_or_len (λ x. eqb x b) xs + 1) xs
after_place b [] = refl
after_place b (x ∷ xs) =
    ap (λ ys. cond (eqb x b) xs ys) (after_place b xs)
    ∙ after_step (eqb x b) x (position_or_len (λ x. eqb x b) xs) xs

is_place : (t : Bool) (n i : ℕ) → Some i ≡ cond t (Some n) None → i ≡ n
is_place true n i e = cc
is_place false n i e = cc

none_at : (t : Bool) (n l : ℕ) → ltb n l ≡ t → None ≡ cond t (Some n) None → l ≤ n
none_at true n l is e = cc
none_at false n l is e = ltb-false n l is

pub no_place : {X : Type 0} (p : X → Bool) (xs : List X) → None ≡ position p xs → length xs ≤ position_or_len p xs
no_place p xs e = none_at (ltb (position_or_len p xs) (length xs)) (position_or_len p xs) (length xs) refl e

pub cut_before : (b : ℕ) (xs : List ℕ) (i : ℕ) → Some i ≡ position (λ x. eqb x b) xs → take i xs ≡ before b xs
cut_before b xs i e = ap (λ n. take n xs) (is_place _ _ i e) ∙ sym (before_place b xs)

pub cut_after : (b : ℕ) (xs : List ℕ) (i : ℕ) → Some i ≡ position (λ x. eqb x b) xs → drop (i + 1) xs ≡ after b xs
cut_after b xs i e = ap (λ n. drop (n + 1) xs) (is_place _ _ i e) ∙ sym (after_place b xs)

pub whole_before : (b : ℕ) (xs : List ℕ) → None ≡ position (λ x. eqb x b) xs → xs ≡ before b xs
whole_before b xs e = sym (before_place b xs ∙ take_all _ xs (no_place _ xs e))

pub none_after : (b : ℕ) (xs : List ℕ) → None ≡ position (λ x. eqb x b) xs → [] ≡ after b xs
none_after b xs e =
    let h = no_place (λ x. eqb x b) xs e in
    let l : length xs ≤ position_or_len (λ x. eqb x b) xs + 1 = omega arith in
    sym (after_place b xs ∙ rw drop_all)

-- the first part of what is not empty is what stands before the stop
parts_by : (t : Bool) (b x : ℕ) (xs : List ℕ) → (y : ℕ) (ys : List ℕ) → xs ≡ y ∷ ys → parts_of b xs ≡ before b xs ∷ parts_of b (after b xs)
    → cond t ([] ∷ parts_of b xs) (with_first x (parts_of b xs)) ≡ cond t [] (x ∷ before b xs) ∷ parts_of b (cond t xs (after b xs))
parts_by true b x xs y ys e ih = refl
parts_by false b x xs y ys e ih = ap (with_first x) ih

parts_one : (t : Bool) (b x : ℕ) → cond t ([] ∷ parts_of b []) (with_first x (parts_of b [])) ≡ cond t [] (x ∷ before b []) ∷ parts_of b (cond t [] (after b []))
parts_one true b x = refl
parts_one false b x = refl

parts_cons : (b x : ℕ) (xs : List ℕ) → parts_of b (x ∷ xs) ≡ before b (x ∷ xs) ∷ parts_of b (after b (x ∷ xs))
parts_cons b x [] = parts_one (eqb x b) b x
parts_cons b x (y ∷ ys) = parts_by (eqb x b) b x (y ∷ ys) y ys refl (parts_cons b y ys)

pub parts_more : (b : ℕ) (xs : List ℕ) → 0 < length xs → parts_of b xs ≡ before b xs ∷ parts_of b (after b xs)
parts_more b [] lt = absurd (omega arith)
parts_more b (x ∷ xs) lt = parts_cons b x xs

-- spaces are passed by
skip_by : (t : Bool) (x n : ℕ) (xs : List ℕ) → eqb x 32 ≡ t → words_of (drop n xs) ≡ words_of xs → words_of (drop (cond (not (not t)) (1 + n) 0) (x ∷ xs)) ≡ words_of (x ∷ xs)
skip_by true x n xs is ih =
    let e : 1 + n ≡ suc n = omega arith in
    rw e (ih ∙ sym (ap filled (cond-true _ _ _ is)))
skip_by false x n xs is ih = refl

skipped : (line : List ℕ) → words_of (drop (position_or_len (λ x. not (eqb x 32)) line) line) ≡ words_of line
skipped [] = refl
skipped (x ∷ xs) = skip_by (eqb x 32) x (position_or_len (λ x. not (eqb x 32)) xs) xs refl (skipped xs)

-- a part that holds something is a word
filled_keep : (w : List ℕ) (ps : List (List ℕ)) → 0 < length w → filled (w ∷ ps) ≡ w ∷ filled ps
filled_keep [] ps lt = absurd (omega arith)
filled_keep (x ∷ xs) ps lt = refl

not_true : (t : Bool) → not t ≡ true → t ≡ false
not_true true h = cc
not_true false h = refl

word_first : (ys : List ℕ) → 0 < length ys → not (eqb (get_or ys 0 0) 32) ≡ true → words_of ys ≡ before 32 ys ∷ words_of (after 32 ys)
word_first [] lt h = absurd (omega arith)
word_first (x ∷ xs) lt h =
    let e : before 32 (x ∷ xs) ≡ x ∷ before 32 xs = cond-false (eqb x 32) _ _ (not_true (eqb x 32) h) in
    let l : 0 < length (before 32 (x ∷ xs)) = rw e (omega arith) in
    ap filled (parts_more 32 (x ∷ xs) lt) ∙ filled_keep (before 32 (x ∷ xs)) (parts_of 32 (after 32 (x ∷ xs))) l

pub word_next : (line : List ℕ) (i : ℕ) (w rest : List ℕ) → Some i ≡ position (λ x. not (eqb x 32)) line → w ≡ before 32 (drop i line) → rest ≡ after 32 (drop i line) → words_of line ≡ w ∷ words_of rest
word_next line i w rest e front back =
    let at = position-Some (λ x. not (eqb x 32)) line i 0 (sym e) in
    let l : 0 < length (drop i line) = rw length-drop (omega arith) in
    let f : not (eqb (get_or (drop i line) 0 0) 32) ≡ true = rw (get_or-drop, add-zero) at.1 in
    sym (skipped line) ∙ ap (λ n. words_of (drop n line)) (sym (is_place _ _ i e)) ∙ word_first (drop i line) l f
    ∙ ap (λ v. v ∷ words_of (after 32 (drop i line))) (sym front) ∙ ap (λ r. w ∷ words_of r) (sym back)

pub word_none : (line : List ℕ) → None ≡ position (λ x. not (eqb x 32)) line → words_of line ≡ []
word_none line e =
    let h = no_place (λ x. not (eqb x 32)) line e in
    let n : drop (position_or_len (λ x. not (eqb x 32)) line) line ≡ [] = rw drop_all in
    sym (skipped line) ∙ ap words_of n

pub line_next : (text line rest : List ℕ) → 0 < length text → line ≡ before 10 text → rest ≡ after 10 text → lines_of text ≡ line ∷ lines_of rest
line_next text line rest lt front back = parts_more 10 text lt ∙ ap (λ l. l ∷ lines_of (after 10 text)) (sym front) ∙ ap (λ r. line ∷ lines_of r) (sym back)
