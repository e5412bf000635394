-- One step of a count, a sum and a picture.
use Rattle.std.proofs.Common.{◌≡◌, ℕ, ◌+◌, ◌<◌, Bool, true, false, cond, List, [], ◌∷◌, ◌++◌, map, length, take, set, sum_by, count_by, sym, ap, ◌∙◌, arith}
use Rattle.std.specs.List.{range_with_len}
use Rattle.std.proofs.lemmas.List.{map-id, take_more_set}
use Rattle.std.proofs.lemmas.List.FromFn.{sum_by-map-range_with_len_more, map-range_with_len_more}
use Rattle.std.proofs.lemmas.Bool.{cond-true, cond-false}

-- a sum over the numbers below n, and one more
pub sum_step : (f : ℕ → ℕ) (n : ℕ) → sum_by f (range_with_len 0 (n + 1)) ≡ sum_by f (range_with_len 0 n) + f n
sum_step f n =
    ap (sum_by f) (sym (map-id (range_with_len 0 (n + 1))))
    ∙ sum_by-map-range_with_len_more f (λ x. x) 0 n n (omega arith)
    ∙ ap (λ xs. sum_by f xs + f n) (map-id (range_with_len 0 n))

-- a count, where the next passes and where it does not
pub count_yes : (p : ℕ → Bool) (n k m : ℕ) → k ≡ count_by p (range_with_len 0 n) → p n ≡ true → m ≡ k + 1 → m ≡ count_by p (range_with_len 0 (n + 1))
count_yes p n k m is yes-next e =
    let s = sum_step (λ x. cond (p x) 1 0) n in
    let t : ◌≡◌ {A = ℕ} (cond (p n) 1 0) 1 = cond-true (p n) 1 0 yes-next in
    omega (arith, s, t)

pub count_no : (p : ℕ → Bool) (n k m : ℕ) → k ≡ count_by p (range_with_len 0 n) → p n ≡ false → m ≡ k → m ≡ count_by p (range_with_len 0 (n + 1))
count_no p n k m is no-next e =
    let s = sum_step (λ x. cond (p x) 1 0) n in
    let t : ◌≡◌ {A = ℕ} (cond (p n) 1 0) 0 = cond-false (p n) 1 0 no-next in
    omega (arith, s, t)

-- a list by index, and one more
pub made_step : (f : ℕ → ℕ) (xs : List ℕ) (n v : ℕ) → n < length xs → take n xs ≡ map f (range_with_len 0 n) → v ≡ f n → take (n + 1) (set xs n v) ≡ map f (range_with_len 0 (n + 1))
made_step f xs n v lt is e =
    take_more_set xs n v lt
    ∙ ap (λ ys. ys ++ v ∷ []) is ∙ ap (λ w. map f (range_with_len 0 n) ++ w ∷ []) e
    ∙ sym (map-range_with_len_more f 0 n n (omega arith))
