-- Laws of `every`, `some`, `first_of`, with the steps of a loop that counts up.
use Rattle.std.proofs.Common.{◌≡◌, ℕ, zero, suc, ◌+◌, ◌<◌, ◌≤◌, Bool, true, false, ◌&&◌, ◌||◌, Some, None, Decides, Option, sym, refl, ap, ◌∙◌, ⊎_elim, add-one, arith}
use Rattle.std.specs.Option.{option_or}
use Rattle.std.proofs.lemmas.Bool.{cases_Bool, cases_eq, or_from, and_from, true≢false}
use Rattle.std.proofs.lemmas.Bool.Decides.{Decides-below_or, Decides-below_and}
use Rattle.sets.specs.Bounds.{every, some, first_of, when, lowest}

is_true : (b : Bool) → Decides b (b ≡ true)
is_true b = (λ e. e, λ e. e)

pub decides_some : (f : ℕ → Bool) (n : ℕ) → Decides (some n f) ((k : ℕ) × (k < n) × (f k ≡ true))
decides_some f n = Decides-below_or f (λ k. f k ≡ true) (λ m. some m f) (λ k. is_true (f k)) refl (λ _. refl) n

pub decides_every : (f : ℕ → Bool) (n : ℕ) → Decides (every n f) ((k : ℕ) → k < n → f k ≡ true)
decides_every f n = Decides-below_and f (λ k. f k ≡ true) (λ m. every m f) (λ k. is_true (f k)) refl (λ _. refl) n

-- tests that agree below n
pub some_same : (n : ℕ) (f g : ℕ → Bool) → ((k : ℕ) → k < n → f k ≡ g k) → some n f ≡ some n g
some_same zero f g e = refl
some_same (suc n) f g e = ap (λ (b : Bool). b || some n f) (e n (omega arith)) ∙ ap (λ (b : Bool). g n || b) (some_same n f g (λ k l. e k (omega arith)))

pub every_same : (n : ℕ) (f g : ℕ → Bool) → ((k : ℕ) → k < n → f k ≡ g k) → every n f ≡ every n g
every_same zero f g e = refl
every_same (suc n) f g e = ap (λ (b : Bool). b && every n f) (e n (omega arith)) ∙ ap (λ (b : Bool). g n && b) (every_same n f g (λ k l. e k (omega arith)))

pub first_same : {X : Type 0} (n : ℕ) (f g : ℕ → Option X) → ((k : ℕ) → k < n → f k ≡ g k) → first_of n f ≡ first_of n g
first_same zero f g e = refl
first_same (suc n) f g e = ap (λ o. option_or o (f n)) (first_same n f g (λ k l. e k (omega arith))) ∙ ap (option_or (first_of n g)) (e n (omega arith))

pub some_none : (n : ℕ) (f : ℕ → Bool) → ((k : ℕ) → k < n → f k ≡ false) → some n f ≡ false
some_none zero f e = refl
some_none (suc n) f e = or_from (f n) (some n f) (e n (omega arith)) (some_none n f (λ k l. e k (omega arith)))

-- nothing passes from k on
pub some_until : (n k : ℕ) (f : ℕ → Bool) → k ≤ n → ((j : ℕ) → k ≤ j → j < n → f j ≡ false) → some n f ≡ some k f
some_until zero k f l e = let z : 0 ≡ k = omega arith in ap (λ m. some m f) z
some_until (suc n) k f l e =
    ⊎_elim
    (λ (q : k ≡ suc n). ap (λ m. some m f) (sym q))
    (λ (ne : k ≡ suc n → ⊥).
    ap (λ (b : Bool). b || some n f) (e n (omega (arith, ne)) (omega arith)) ∙ some_until n k f (omega (arith, ne)) (λ j m u. e j m (omega arith)))
    (cases_eq k (suc n))

pub some_step : (f : ℕ → Bool) (i : ℕ) → some (i + 1) f ≡ (f i || some i f)
some_step f i = rw add-one

-- one turn more of a loop that has not found anything
pub some_more : (f : ℕ → Bool) (i : ℕ) → some i f ≡ false → f i ≡ false → some (i + 1) f ≡ false
some_more f i e h = rw add-one (or_from (f i) (some i f) h e)

pub some_here : (f : ℕ → Bool) (i n : ℕ) → i < n → f i ≡ true → some n f ≡ true
some_here f i n lt h = (decides_some f n).1 (i, lt, h)

module _ {X : Type 0} (f : ℕ → Option X) where
  pub first_more : (i : ℕ) → first_of i f ≡ None → f i ≡ None → first_of (i + 1) f ≡ None
  first_more i e h = rw add-one (rw (e, h) refl)

  -- nothing is found where nothing stands
  pub first_nothing : (n : ℕ) → ((k : ℕ) → k < n → f k ≡ None) → first_of n f ≡ None
  first_nothing zero h = refl
  first_nothing (suc n) h = let below : first_of n f ≡ None = first_nothing n (λ k l. h k (omega arith)) in rw (below, h n (omega arith)) refl

  -- found at i, and at no number below
  pub first_here : (i n : ℕ) (x : X) → i < n → first_of i f ≡ None → f i ≡ Some x → first_of n f ≡ Some x
  first_here i zero x lt e h = absurd (omega arith)
  first_here i (suc n) x lt e h =
      ⊎_elim
      (λ (q : i ≡ n). let e' : first_of n f ≡ None = ap (λ m. first_of m f) (sym q) ∙ e in let h' : f n ≡ Some x = ap f (sym q) ∙ h in rw (e', h') refl)
      (λ (ne : i ≡ n → ⊥). let below : first_of n f ≡ Some x = first_here i n x (omega (arith, ne)) e h in rw below refl)
      (cases_eq i n)

  -- where nothing is found, nothing stands at any number
  pub first_none : (n : ℕ) → first_of n f ≡ None → (k : ℕ) → k < n → f k ≡ None
  first_none zero e k l = absurd (omega arith)
  first_none (suc n) e k l = parts (first_none n) (first_of n f) refl
    where
      parts : (first_of n f ≡ None → (j : ℕ) → j < n → f j ≡ None) → (o : Option X) → first_of n f ≡ o → f k ≡ None
      parts before None h =
          ⊎_elim
          (λ (q : k ≡ n). ap f q ∙ sym (ap (λ o. option_or o (f n)) h) ∙ e)
          (λ (ne : k ≡ n → ⊥). before h k (omega (arith, ne)))
          (cases_eq k n)
      parts before (Some x) h = absurd (some≢none (sym (ap (λ o. option_or o (f n)) h) ∙ e))
        where
          some≢none : {x : X} → Some x ≡ None → ⊥
          some≢none p = let z : ◌≡◌ {A = ℕ} 0 1 = cc in omega arith

  -- what is found stands somewhere
  pub first_found : (n : ℕ) (x : X) → first_of n f ≡ Some x → (k : ℕ) × (k < n) × (f k ≡ Some x)
  first_found zero x e = absurd (let z : ◌≡◌ {A = ℕ} 0 1 = cc in omega arith)
  first_found (suc n) x e = parts (first_found n x) (first_of n f) refl
    where
      parts : (first_of n f ≡ Some x → (k : ℕ) × (k < n) × (f k ≡ Some x)) → (o : Option X) → first_of n f ≡ o → (k : ℕ) × (k < suc n) × (f k ≡ Some x)
      parts before None h = (n, omega arith, sym (ap (λ o. option_or o (f n)) h) ∙ e)
      parts before (Some y) h =
          let at = before (h ∙ sym (ap (λ o. option_or o (f n)) h) ∙ e) in
          (at.0, omega (arith, at.1), at.2)

  -- what is found stands at some number, and nothing stands at a lower one
  pub first_lowest : (n : ℕ) (x : X) → first_of n f ≡ Some x → (k : ℕ) × (k < n) × (f k ≡ Some x) × ((j : ℕ) → j < k → f j ≡ None)
  first_lowest zero x e = absurd (let z : ◌≡◌ {A = ℕ} 0 1 = cc in omega arith)
  first_lowest (suc n) x e = parts (first_lowest n x) (first_of n f) refl
    where
      parts : (first_of n f ≡ Some x → (k : ℕ) × (k < n) × (f k ≡ Some x) × ((j : ℕ) → j < k → f j ≡ None)) → (o : Option X) → first_of n f ≡ o → (k : ℕ) × (k < suc n) × (f k ≡ Some x) × ((j : ℕ) → j < k → f j ≡ None)
      parts before None h = (n, omega arith, sym (ap (λ o. option_or o (f n)) h) ∙ e, first_none n h)
      parts before (Some y) h =
          let at = before (h ∙ sym (ap (λ o. option_or o (f n)) h) ∙ e) in
          (at.0, omega (arith, at.1), at.2, at.3)

pub when_none : {X : Type 0} (b : Bool) (x : X) → when b x ≡ None → b ≡ false
when_none true x e = absurd (let z : ◌≡◌ {A = ℕ} 0 1 = cc in omega arith)
when_none false x e = refl

pub when_some : (b : Bool) (k m : ℕ) → when b k ≡ Some m → (b ≡ true) × (k ≡ m)
when_some true k m e = (refl, cc)
when_some false k m e = absurd (let z : ◌≡◌ {A = ℕ} 0 1 = cc in omega arith)

-- the lowest passes, and there is one where any passes
pub lowest_passes : (p : ℕ → Bool) (n k : ℕ) → lowest n p ≡ Some k → (p k ≡ true) × (k < n)
lowest_passes p n k e =
    let at = first_found (λ i. when (p i) i) n k e in
    let here = when_some (p at.0) at.0 k at.2 in
    (ap p (sym here.1) ∙ here.0, omega (arith, at.1, here.1))

pub lowest_at : (p : ℕ → Bool) (n k : ℕ) → k < n → p k ≡ true → (m : ℕ) × (lowest n p ≡ Some m)
lowest_at p n k lt h = found (lowest n p) refl
  where
    found : (o : Option ℕ) → lowest n p ≡ o → (m : ℕ) × (lowest n p ≡ Some m)
    found None e = absurd (true≢false (sym h ∙ when_none (p k) k (first_none (λ i. when (p i) i) n e k lt)))
    found (Some m) e = (m, e)

pub every_more : (f : ℕ → Bool) (i : ℕ) → every i f ≡ true → f i ≡ true → every (i + 1) f ≡ true
every_more f i e h = rw add-one (and_from (f i) (every i f) h e)

pub every_not : (f : ℕ → Bool) (i n : ℕ) → i < n → f i ≡ false → every n f ≡ false
every_not f i n lt h =
    ⊎_elim
    (λ (e : every n f ≡ true). e ∙ sym ((decides_every f n).0 e i lt) ∙ h)
    (λ (e : every n f ≡ false). e)
    (cases_Bool (every n f))
