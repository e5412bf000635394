-- A set that is filled from the lowest number up.
use Rattle.std.proofs.Common.{◌≡◌, ℕ, ◌+◌, ◌<◌, ◌≤◌, Bool, true, false, cond, ◌&&◌, ◌||◌, eqb, ltb, sym, refl, ap, ◌∙◌, ⊎_elim, arith}
use Rattle.std.proofs.lemmas.Bool.{lt-ltb, le-ltb, eq-eqb, ne_eqb, cases_eq, cases_lt, or_right}
use Rattle.sets.specs.Member.{member}

-- below n the set has the numbers at which f holds, and none from there on
abbrev pub Filled : (ℕ → Bool) → ℕ → ℕ → Type 0
Filled f n s = (j : ℕ) → member s j ≡ cond (ltb j n) (f j) false

or_none : (b : Bool) → (b || false) ≡ b
or_none true = refl
or_none false = refl

-- the numbers below n and n itself are those below n + 1
same_below : (f : ℕ → Bool) (n j : ℕ) → (j ≡ n → ⊥) → cond (ltb j n) (f j) false ≡ cond (ltb j (n + 1)) (f j) false
same_below f n j other =
    ap (λ (b : Bool). cond b (f j) false)
    (⊎_elim (λ m. lt-ltb j n m ∙ sym (lt-ltb j (n + 1) (omega arith))) (λ m. le-ltb j n m ∙ sym (le-ltb j (n + 1) (omega arith))) (cases_lt j n))

at_here : (f : ℕ → Bool) (n j : ℕ) (b : Bool) → j ≡ n → f n ≡ b → cond (ltb j (n + 1)) (f j) false ≡ b
at_here f n j b e h = ap (λ (t : Bool). cond t (f j) false) (lt-ltb j (n + 1) (omega arith)) ∙ ap f e ∙ h

-- what `with` gives at a number below 64
pub with_below : (s t k : ℕ) → k < 64 → ((j : ℕ) → member t j ≡ (member s j || (ltb k 64 && eqb j k))) → (j : ℕ) → member t j ≡ (member s j || eqb j k)
with_below s t k l new j = new j ∙ ap (λ (b : Bool). member s j || (b && eqb j k)) (lt-ltb k 64 l)

pub filled_none : (f : ℕ → Bool) (s : ℕ) → ((j : ℕ) → member s j ≡ false) → Filled f 0 s
filled_none f s h j = h j ∙ sym (ap (λ (b : Bool). cond b (f j) false) (le-ltb j 0 (omega arith)))

pub filled_skip : (f : ℕ → Bool) (n s : ℕ) → f n ≡ false → Filled f n s → Filled f (n + 1) s
filled_skip f n s e h j =
    h j ∙ ⊎_elim
    (λ (same : j ≡ n). ap (λ (b : Bool). cond b (f j) false) (le-ltb j n (omega arith)) ∙ sym (at_here f n j false same e))
    (λ other. same_below f n j other)
    (cases_eq j n)

pub filled_with : (f : ℕ → Bool) (n s t : ℕ) → n < 64 → f n ≡ true → ((j : ℕ) → member t j ≡ (member s j || (ltb n 64 && eqb j n))) → Filled f n s → Filled f (n + 1) t
filled_with f n s t l e new h j =
    with_below s t n l new j ∙ ⊎_elim
    (λ (same : j ≡ n). or_right (member s j) (eqb j n) (eq-eqb j n same) ∙ sym (at_here f n j true same e))
    (λ other. ap (λ (b : Bool). member s j || b) (ne_eqb j n other) ∙ or_none (member s j) ∙ h j ∙ same_below f n j other)
    (cases_eq j n)

-- where f is false from n on, the set is f
pub filled_all : (f : ℕ → Bool) (n s : ℕ) → Filled f n s → ((j : ℕ) → n ≤ j → f j ≡ false) → (j : ℕ) → member s j ≡ f j
filled_all f n s h none j =
    h j ∙ ⊎_elim
    (λ k. ap (λ (b : Bool). cond b (f j) false) (lt-ltb j n k))
    (λ k. ap (λ (b : Bool). cond b (f j) false) (le-ltb j n k) ∙ sym (none j k))
    (cases_lt j n)

-- and the other way
pub filled_from : (f : ℕ → Bool) (n s : ℕ) → ((j : ℕ) → j < n → member s j ≡ f j) → ((j : ℕ) → n ≤ j → member s j ≡ false) → Filled f n s
filled_from f n s low high j =
    ⊎_elim
    (λ k. low j k ∙ sym (ap (λ (b : Bool). cond b (f j) false) (lt-ltb j n k)))
    (λ k. high j k ∙ sym (ap (λ (b : Bool). cond b (f j) false) (le-ltb j n k)))
    (cases_lt j n)
