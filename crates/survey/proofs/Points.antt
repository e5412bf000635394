-- One point more, and one row more, of what holds at every point and of what holds at some.
use Rattle.std.proofs.Common.{◌≡◌, ℕ, ◌+◌, Bool, true, false, ◌&&◌, ◌||◌, sym, refl, ap, ◌∙◌, add-one}
use Rattle.sets.specs.Bounds.{every, some}

every_more : (n : ℕ) (p : ℕ → Bool) → every (n + 1) p ≡ (p n && every n p)
every_more n p = rw add-one

some_more : (n : ℕ) (p : ℕ → Bool) → some (n + 1) p ≡ (p n || some n p)
some_more n p = rw add-one

and_assoc : (a b c : Bool) → (a && (b && c)) ≡ ((a && b) && c)
and_assoc true b c = refl
and_assoc false b c = refl

or_assoc : (a b c : Bool) → (a || (b || c)) ≡ ((a || b) || c)
or_assoc true b c = refl
or_assoc false b c = refl

-- one point more of a row, where r is of the rows before
pub every_point : (p : ℕ → Bool) (x : ℕ) (r v a old : Bool) → v ≡ (a && old) → a ≡ p x → old ≡ (every x p && r) → v ≡ (every (x + 1) p && r)
every_point p x r v a old e f h = e ∙ ap (λ (b : Bool). b && old) f ∙ ap (λ (b : Bool). p x && b) h ∙ and_assoc (p x) (every x p) r ∙ ap (λ (b : Bool). b && r) (sym (every_more x p))

pub some_point : (p : ℕ → Bool) (x : ℕ) (r v a old : Bool) → v ≡ (a || old) → a ≡ p x → old ≡ (some x p || r) → v ≡ (some (x + 1) p || r)
some_point p x r v a old e f h = e ∙ ap (λ (b : Bool). b || old) f ∙ ap (λ (b : Bool). p x || b) h ∙ or_assoc (p x) (some x p) r ∙ ap (λ (b : Bool). b || r) (sym (some_more x p))

-- one row more, which has w points; low is what held before the first row
pub every_row : (q : ℕ → ℕ → Bool) (w x y : ℕ) (v low : Bool) → x ≡ w → v ≡ (every x (λ i. q i y) && (every y (λ j. every w (λ i. q i j)) && low)) → v ≡ (every (y + 1) (λ j. every w (λ i. q i j)) && low)
every_row q w x y v low e h =
    h ∙ ap (λ (n : ℕ). every n (λ i. q i y) && (every y (λ j. every w (λ i. q i j)) && low)) e
    ∙ and_assoc (every w (λ i. q i y)) (every y (λ j. every w (λ i. q i j))) low
    ∙ ap (λ (b : Bool). b && low) (sym (every_more y (λ j. every w (λ i. q i j))))

pub some_row : (q : ℕ → ℕ → Bool) (w x y : ℕ) (v : Bool) → x ≡ w → v ≡ (some x (λ i. q i y) || some y (λ j. some w (λ i. q i j))) → v ≡ some (y + 1) (λ j. some w (λ i. q i j))
some_row q w x y v e h = h ∙ ap (λ (n : ℕ). some n (λ i. q i y) || some y (λ j. some w (λ i. q i j))) e ∙ sym (some_more y (λ j. some w (λ i. q i j)))
