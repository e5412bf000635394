-- A word is the word of its bits.
use Rattle.std.proofs.Common.{◌≡◌, ℕ, zero, suc, ◌+◌, ◌-◌, ◌*◌, ◌/◌, ◌%◌, ◌^◌, ◌<◌, ◌≤◌, Bool, true, false, cond, eqb, sym, refl, ap, ◌∙◌, ⊎_elim, pow-suc, arith}
use Rattle.std.proofs.lemmas.Nat.{pow_pos, div_below, mod_below, shr_split, field_of, mod-pow-add}
use Rattle.std.proofs.lemmas.Bool.{cases_lt}
use Rattle.sets.specs.Member.{member, word_of}

-- bits that agree below n give one word
pub word_same : (n : ℕ) (f g : ℕ → Bool) → ((k : ℕ) → k < n → f k ≡ g k) → word_of n f ≡ word_of n g
word_same zero f g e = refl
word_same (suc n) f g e =
    ap (λ (b : Bool). cond b (2 ^ n) 0 + word_of n f) (e n (omega arith)) ∙ ap (λ (w : ℕ). cond (g n) (2 ^ n) 0 + w) (word_same n f g (λ k l. e k (omega arith)))

-- the bits below n are those of the remainder
member_mod : (a n k : ℕ) → k < n → member (a % 2 ^ n) k ≡ member a k
member_mod a n k l =
    let e : (n - k - 1 + 1) + k ≡ n = omega arith in
    let f : a % 2 ^ n / 2 ^ k ≡ a / 2 ^ k % 2 ^ (n - k - 1 + 1) = ap (λ (m : ℕ). a % 2 ^ m / 2 ^ k) (sym e) ∙ field_of a (n - k - 1 + 1) k in
    ap (λ (q : ℕ). eqb (q % 2) 1) f ∙ ap (λ (q : ℕ). eqb q 1) (mod_two (a / 2 ^ k) (n - k - 1))
  where
    mod_two : (b m : ℕ) → b % 2 ^ (m + 1) % 2 ≡ b % 2
    mod_two b m = omega (arith, mod-pow-add b m 1)

pub word_is : (n a : ℕ) → a < 2 ^ n → a ≡ word_of n (member a)
word_is zero a h = omega arith
word_is (suc n) a h =
    let p = pow-suc 2 n in
    let q : a / 2 ^ n < 2 = div_below a (2 ^ n) 2 (pow_pos n) (omega arith) in
    let s = shr_split a n in
    let low : a % 2 ^ n ≡ word_of n (member a) = word_is n (a % 2 ^ n) (mod_below a (2 ^ n) (pow_pos n)) ∙ word_same n (member (a % 2 ^ n)) (member a) (λ k l. member_mod a n k l) in
    ⊎_elim
    (λ (zero_bit : a / 2 ^ n < 1).
    let z : a / 2 ^ n ≡ 0 = omega arith in
    let b : member a n ≡ false = ap (λ (m : ℕ). eqb (m % 2) 1) z in
    let t : a ≡ a % 2 ^ n = sym s ∙ ap (λ (m : ℕ). m * 2 ^ n + a % 2 ^ n) z ∙ omega arith in
    t ∙ low ∙ sym (ap (λ (c : Bool). cond c (2 ^ n) 0 + word_of n (member a)) b ∙ omega arith))
    (λ (one_bit : 1 ≤ a / 2 ^ n).
    let z : a / 2 ^ n ≡ 1 = omega arith in
    let b : member a n ≡ true = ap (λ (m : ℕ). eqb (m % 2) 1) z in
    let t : a ≡ 2 ^ n + a % 2 ^ n = sym s ∙ ap (λ (m : ℕ). m * 2 ^ n + a % 2 ^ n) z ∙ omega arith in
    t ∙ ap (λ (m : ℕ). 2 ^ n + m) low ∙ sym (ap (λ (c : Bool). cond c (2 ^ n) 0 + word_of n (member a)) b))
    (cases_lt (a / 2 ^ n) 1)

-- a word of n bits is known by its bits
pub word_from : (n a : ℕ) (f : ℕ → Bool) → a < 2 ^ n → ((k : ℕ) → k < n → member a k ≡ f k) → a ≡ word_of n f
word_from n a f h e = word_is n a h ∙ word_same n (member a) f e
