-- The bits of a word that is made of others.
use Rattle.std.proofs.Common.{◌≡◌, ℕ, zero, suc, ◌+◌, ◌-◌, ◌*◌, ◌/◌, ◌%◌, ◌^◌, ◌<◌, ◌≤◌, Bool, false, not, ◌&&◌, ◌||◌, eqb, ltb, sym, refl, ap, ◌∙◌, ⊎_elim, add-mul, pow-suc, div-one, one-add, arith}
use lib.Bits.{bit_and, bit_or}
use Rattle.std.proofs.lemmas.Nat.{and_shr, or_shr, and_mod, or_mod, pow_pos, pow_below, pow-add, div_below, shl-shr, shr-shr, shr_high}
use Rattle.std.proofs.lemmas.Bool.{cases_order, eq-eqb, ne_eqb, cases_lt, lt-ltb, le-ltb, and_left}
use Rattle.sets.specs.Member.{member}

low_and : (a b : ℕ) → a < 2 → b < 2 → eqb (bit_and a b) 1 ≡ (eqb a 1 && eqb b 1)
low_and zero zero h k = refl
low_and zero (suc zero) h k = refl
low_and (suc zero) zero h k = refl
low_and (suc zero) (suc zero) h k = refl
low_and (suc (suc a)) b h k = absurd (omega arith)
low_and zero (suc (suc b)) h k = absurd (omega arith)
low_and (suc zero) (suc (suc b)) h k = absurd (omega arith)

low_or : (a b : ℕ) → a < 2 → b < 2 → eqb (bit_or a b) 1 ≡ (eqb a 1 || eqb b 1)
low_or zero zero h k = refl
low_or zero (suc zero) h k = refl
low_or (suc zero) zero h k = refl
low_or (suc zero) (suc zero) h k = refl
low_or (suc (suc a)) b h k = absurd (omega arith)
low_or zero (suc (suc b)) h k = absurd (omega arith)
low_or (suc zero) (suc (suc b)) h k = absurd (omega arith)

pub member_and : (a b k : ℕ) → member (bit_and a b) k ≡ (member a k && member b k)
member_and a b k =
    ap (λ (n : ℕ). eqb n 1) (ap (λ (n : ℕ). n % 2) (and_shr a b k) ∙ and_mod (a / 2 ^ k) (b / 2 ^ k) 1)
    ∙ low_and (a / 2 ^ k % 2) (b / 2 ^ k % 2) (omega arith) (omega arith)

pub member_or : (a b k : ℕ) → member (bit_or a b) k ≡ (member a k || member b k)
member_or a b k =
    ap (λ (n : ℕ). eqb n 1) (ap (λ (n : ℕ). n % 2) (or_shr a b k) ∙ or_mod (a / 2 ^ k) (b / 2 ^ k) 1)
    ∙ low_or (a / 2 ^ k % 2) (b / 2 ^ k % 2) (omega arith) (omega arith)

-- a word has no member past its bits
pub member_past : (a n j : ℕ) → a < 2 ^ n → n ≤ j → member a j ≡ false
member_past a n j h l =
    let p : 2 ^ n ≤ 2 ^ j = ⊎_elim (λ (k : n < j). omega (arith, pow_below n j k)) (λ (k : j ≤ n). let e : n ≡ j = omega arith in omega (arith, ap (λ (m : ℕ). 2 ^ m) e)) (cases_lt n j) in
    let z : a / 2 ^ j ≡ 0 = omega (arith, div_below a (2 ^ j) 1 (pow_pos j) (omega arith)) in
    ap (λ (q : ℕ). eqb (q % 2) 1) z

pub member_pow : (k j : ℕ) → member (2 ^ k) j ≡ eqb j k
member_pow k j =
    ⊎_elim
    (λ (e : j ≡ k). let one : 2 ^ k / 2 ^ j ≡ 1 = rw e (ap (λ (n : ℕ). n / 2 ^ k) (omega arith) ∙ shl-shr 1 k) in ap (λ (q : ℕ). eqb (q % 2) 1) one ∙ sym (eq-eqb j k e))
    (⊎_elim
    (λ (l : j < k).
    let e : (k - j - 1) + 1 + j ≡ k = omega arith in
    let p : 2 ^ k ≡ (2 ^ (k - j - 1) * 2) * 2 ^ j = ap (λ (n : ℕ). 2 ^ n) (sym e) ∙ pow-add 2 ((k - j - 1) + 1) j ∙ ap (λ (n : ℕ). n * 2 ^ j) (pow-add 2 (k - j - 1) 1) in
    let q : 2 ^ k / 2 ^ j ≡ 2 ^ (k - j - 1) * 2 = ap (λ (n : ℕ). n / 2 ^ j) p ∙ shl-shr (2 ^ (k - j - 1) * 2) j in
    let even : 2 ^ (k - j - 1) * 2 % 2 ≡ 0 = omega arith in
    ap (λ (n : ℕ). eqb (n % 2) 1) q ∙ ap (λ (n : ℕ). eqb n 1) even ∙ sym (ne_eqb j k (λ same. omega arith)))
    (λ (l : k < j). member_past (2 ^ k) j j (pow_below k j l) (omega arith) ∙ sym (ne_eqb j k (λ same. omega arith))))
    (cases_order j k)

pub member_all : (n j : ℕ) → member (2 ^ n - 1) j ≡ ltb j n
member_all n j =
    ⊎_elim
    (λ (l : j < n).
    let e : (n - j - 1) + 1 + j ≡ n = omega arith in
    let p : 2 ^ n ≡ (2 ^ (n - j - 1) * 2) * 2 ^ j = ap (λ (k : ℕ). 2 ^ k) (sym e) ∙ pow-add 2 ((n - j - 1) + 1) j ∙ ap (λ (k : ℕ). k * 2 ^ j) (pow-add 2 (n - j - 1) 1) in
    let one : 2 ^ (n - j - 1) * 2 ≡ (2 ^ (n - j - 1) * 2 - 1) + 1 = omega (arith, pow_pos (n - j - 1)) in
    let wide : 2 ^ n ≡ (2 ^ (n - j - 1) * 2 - 1) * 2 ^ j + 1 * 2 ^ j = p ∙ ap (λ (a : ℕ). a * 2 ^ j) one ∙ add-mul (2 ^ (n - j - 1) * 2 - 1) 1 (2 ^ j) in
    let s : 2 ^ n - 1 ≡ (2 ^ (n - j - 1) * 2 - 1) * 2 ^ j + (2 ^ j - 1) = omega (arith, wide, pow_pos j) in
    let q : (2 ^ n - 1) / 2 ^ j ≡ 2 ^ (n - j - 1) * 2 - 1 = ap (λ (k : ℕ). k / 2 ^ j) s ∙ shr_high (2 ^ (n - j - 1) * 2 - 1) j (2 ^ j - 1) (omega (arith, pow_pos j)) in
    let odd : (2 ^ (n - j - 1) * 2 - 1) % 2 ≡ 1 = omega (arith, pow_pos (n - j - 1)) in
    ap (λ (k : ℕ). eqb (k % 2) 1) q ∙ ap (λ (k : ℕ). eqb k 1) odd ∙ sym (lt-ltb j n l))
    (λ (l : n ≤ j). member_past (2 ^ n - 1) n j (omega (arith, pow_pos n)) l ∙ sym (le-ltb j n l))
    (cases_lt j n)

-- two numbers that make up 2 ^ n - 1 have opposite digits below n
opposite : (j n a b : ℕ) → a + b + 1 ≡ 2 ^ n → j < n → a / 2 ^ j % 2 + b / 2 ^ j % 2 ≡ 1
opposite j zero a b e l = absurd (omega arith)
opposite zero (suc n) a b e l = omega (arith, pow-suc 2 n, div-one a, div-one b)
opposite (suc j) (suc n) a b e l =
    let p = pow-suc 2 n in
    let half : (m : ℕ) → m / 2 ^ suc j % 2 ≡ m / 2 / 2 ^ j % 2 = λ m. ap (λ i. m / 2 ^ i % 2) (sym (one-add j)) ∙ sym (ap (λ q. q % 2) (shr-shr m 1 j)) in
    let d = opposite j n (a / 2) (b / 2) (omega arith) (omega arith) in
    omega (arith, half a, half b, d)

-- two digits that make up 1 are opposite
low_not : (a b : ℕ) → a + b ≡ 1 → eqb a 1 ≡ not (eqb b 1)
low_not zero (suc zero) e = refl
low_not (suc zero) zero e = refl
low_not zero zero e = absurd (omega arith)
low_not zero (suc (suc b)) e = absurd (omega arith)
low_not (suc a) (suc b) e = absurd (omega arith)
low_not (suc (suc a)) zero e = absurd (omega arith)

-- the word of the other bits
pub member_not : (n a j : ℕ) → a < 2 ^ n → j < n → member (2 ^ n - 1 - a) j ≡ not (member a j)
member_not n a j h l = low_not ((2 ^ n - 1 - a) / 2 ^ j % 2) (a / 2 ^ j % 2) (opposite j n (2 ^ n - 1 - a) a (omega arith) l)

-- a word of n bits, with bit k struck out
pub member_without : (n a k j : ℕ) → a < 2 ^ n → k < n → member (bit_and a (2 ^ n - 1 - 2 ^ k)) j ≡ (member a j && not (eqb j k))
member_without n a k j h l =
    member_and a (2 ^ n - 1 - 2 ^ k) j
    ∙ ⊎_elim
    (λ (m : j < n). ap (λ (b : Bool). member a j && b) (member_not n (2 ^ k) j (pow_below k n l) m ∙ ap not (member_pow k j)))
    (λ (m : n ≤ j). and_left _ _ (member_past a n j h m) ∙ sym (and_left _ _ (member_past a n j h m)))
    (cases_lt j n)
