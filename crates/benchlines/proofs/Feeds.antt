-- How long the next line is, and the lines after it.
use Rattle.std.proofs.Common.{◌≡◌, min, not, ⊎_elim, None, position, unwrap_or, ◌==◌, ℕ, suc, ◌+◌, ◌-◌, ◌<◌, ◌≤◌, Bool, true, false, cond, eqb, List, [], ◌∷◌, length, take, drop, Some, sym, refl, ap, ◌∙◌, arith}
use Rattle.std.specs.List.{position_or_len}
use Rattle.std.proofs.lemmas.List.{drop_all, length-drop, take_all}
use Rattle.std.proofs.lemmas.List.Recursion.{is_position_or_len}
use Rattle.std.proofs.lemmas.List.Sums.{prefix_len-le-length}
use Rattle.std.proofs.lemmas.Bool.{cases_lt, lt-ltb, le-ltb, eqb-false}
use Rattle.benchlines.specs.Input.{lines_of, line_length, in_front, line_feed}

-- how many bytes stand before the first line feed
at_feed : (bs : List ℕ) → line_length bs ≡ position_or_len (λ b. b == line_feed) bs
at_feed bs = is_position_or_len line_length (λ b. b == line_feed) refl (λ b cs. ap (λ n. cond (eqb b line_feed) 0 n) (omega arith)) bs

-- a line ends at the first line feed, or at the end
pub line_ends : (bs : List ℕ) → unwrap_or (position (λ b. b == line_feed) bs) (length bs) ≡ line_length bs
line_ends bs =
    let n = position_or_len (λ b. b == line_feed) bs in
    ⊎_elim
    (λ (l : n < length bs). ap (λ t. unwrap_or (cond t (Some n) None) (length bs)) (lt-ltb n (length bs) l) ∙ sym (at_feed bs))
    (λ (l : length bs ≤ n). ap (λ t. unwrap_or (cond t (Some n) None) (length bs)) (le-ltb n (length bs) l) ∙ omega (arith, at_feed bs, prefix_len-le-length (λ b. not (b == line_feed)) bs))
    (cases_lt n (length bs))

-- the first line, and the lines after its line feed
abbrev parted : List ℕ → List (List ℕ)
parted xs = take (line_length xs) xs ∷ lines_of (drop (suc (line_length xs)) xs)

-- the same at a byte whose test is known
abbrev split : Bool → ℕ → List ℕ → Type 0
split t b bs = cond t ([] ∷ lines_of bs) (in_front b (lines_of bs)) ≡ take (cond t 0 (suc (line_length bs))) (b ∷ bs) ∷ lines_of (drop (suc (cond t 0 (suc (line_length bs)))) (b ∷ bs))

splits : (t : Bool) (b : ℕ) (bs : List ℕ) → (0 < length bs → lines_of bs ≡ parted bs) → split t b bs
splits true b bs h = refl
splits false b [] h = refl
splits false b (x ∷ xs) h = ap (in_front b) (h (omega arith))

pub lines_step : (xs : List ℕ) → 0 < length xs → lines_of xs ≡ parted xs
lines_step [] l = absurd (omega arith)
lines_step (b ∷ bs) l = splits (eqb b line_feed) b bs (lines_step bs)

-- where the input ends before the line feed, nothing is left either way
past_feed : (xs : List ℕ) (n : ℕ) → drop (suc n) xs ≡ drop (min (length xs) (n + 1)) xs
past_feed xs n =
    ⊎_elim
    (λ (l : n < length xs). let k : suc n ≡ min (length xs) (n + 1) = omega arith in ap (λ m. drop m xs) k)
    (λ (l : length xs ≤ n). drop_all (suc n) xs (omega arith) ∙ sym (drop_all (min (length xs) (n + 1)) xs (omega arith)))
    (cases_lt n (length xs))

-- of an input that is not empty, the first line and the others
pub lines_cut : (xs : List ℕ) (end at : ℕ) → false ≡ eqb (length xs) 0 → end ≡ unwrap_or (position (λ b. b == line_feed) xs) (length xs) → at ≡ min (length xs) (end + 1) → lines_of xs ≡ take end xs ∷ lines_of (take (length xs - at) (drop at xs))
lines_cut xs end at some is after =
    let n : line_length xs ≡ end = sym (is ∙ line_ends xs) in
    let more : 0 < length xs = omega (arith, eqb-false (length xs) 0 (sym some)) in
    lines_step xs more
    ∙ ap (λ n. take n xs ∷ lines_of (drop (suc n) xs)) n
    ∙ ap (λ ys. take end xs ∷ lines_of ys) (past_feed xs end ∙ ap (λ m. drop m xs) (sym after) ∙ sym (take_all (length xs - at) (drop at xs) (omega (arith, length-drop at xs))))
