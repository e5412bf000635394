-- What the test `reaches` says of the relation `Reached`.
use Rattle.std.proofs.Common.{◌≡◌, ℕ, zero, suc, ◌<◌, ◌≤◌, Bool, true, false, ◌&&◌, ◌||◌, eqb, length, sym, refl, ap, ◌∙◌, subst, ⊎_elim, arith}
use Rattle.std.proofs.Math.Bool.{or-false}
use Rattle.std.proofs.lemmas.Bool.{cases_Bool, and_left, and_parts, and_from, or_left, or_right, or_cases, eqb-true, eq-eqb, ne_eqb}
use Rattle.sets.specs.Bounds.{some}
use Rattle.sets.proofs.Bounds.{decides_some, some_same, some_none, some_here}
use Rattle.policy.specs.Contents.{Content, parent_at}
use Rattle.policy.specs.Facts.{Upward}
use Rattle.policy.specs.Policies.{says}
use Rattle.rights.specs.Reach.{Reached, none, step, by_step, within, reaches}
use Rattle.rights.specs.Laws.{ReachesMeans, ReachesItself, ReachesOn}

module _ (c : Content) where
  -- a step asks only of its own parent
  same_step : (s k : ℕ) (f g : ℕ → Bool) → ((parent_at c k).child ≡ s → f (parent_at c k).parent ≡ g (parent_at c k).parent) → by_step c s f k ≡ by_step c s g k
  same_step s k f g e =
      ⊎_elim
      (λ (h : eqb (parent_at c k).child s ≡ true). ap (λ (b : Bool). eqb (parent_at c k).child s && b) (e (eqb-true _ _ h)))
      (λ (h : eqb (parent_at c k).child s ≡ false). and_left _ (f (parent_at c k).parent) h ∙ sym (and_left _ (g (parent_at c k).parent) h))
      (cases_Bool (eqb (parent_at c k).child s))

  pub reached_from : (n a s : ℕ) → within n c a s ≡ true → Reached c s a
  reached_from zero a s h = subst (λ t. Reached c s t) (sym (eqb-true a s h)) none
  reached_from (suc n) a s h =
      ⊎_elim
      (λ (e : eqb a s ≡ true). subst (λ t. Reached c s t) (sym (eqb-true a s e)) none)
      (λ (e : some (length c.parents) (by_step c s (within n c a)) ≡ true).
      let found = (decides_some (by_step c s (within n c a)) (length c.parents)).0 e in
      let parts = and_parts (eqb (parent_at c found.0).child s) (within n c a (parent_at c found.0).parent) found.2 in
      step found.0 found.1 (eqb-true _ _ parts.0) (reached_from n a (parent_at c found.0).parent parts.1))
      (or_cases (eqb a s) (some (length c.parents) (by_step c s (within n c a))) h)

  pub itself : (n s : ℕ) → within n c s s ≡ true
  itself zero s = eq-eqb s s refl
  itself (suc n) s = or_left (eqb s s) _ (eq-eqb s s refl)

  pub reached_on : (s t a : ℕ) → Reached c s t → Reached c t a → Reached c s a
  reached_on s t a none more = more
  reached_on s t a (step k l e up) more = step k l e (reached_on (parent_at c k).parent t a up more)

  module _ (upward : Upward c.parents) where
    lower : (k : ℕ) → k < length c.parents → (parent_at c k).parent < (parent_at c k).child
    lower k l = upward k (record { parent = 0; child = 0 }) l

    -- no step starts at schema 0
    lowest_alone : (n a s : ℕ) → s ≤ 0 → within (suc n) c a s ≡ eqb a s
    lowest_alone n a s l =
        let nothing : some (length c.parents) (by_step c s (within n c a)) ≡ false
        = some_none (length c.parents) (by_step c s (within n c a)) (λ k m. and_left _ _ (ne_eqb (parent_at c k).child s (λ (e : (parent_at c k).child ≡ s). omega (arith, lower k m)))) in
        ap (λ (b : Bool). eqb a s || b) nothing ∙ or-false (eqb a s)

    -- from s, any number of steps from s on is enough
    enough : (m n a s : ℕ) → s ≤ m → s ≤ n → within m c a s ≡ within n c a s
    enough zero zero a s l u = refl
    enough zero (suc n) a s l u = sym (lowest_alone n a s l)
    enough (suc m) zero a s l u = lowest_alone m a s u
    enough (suc m) (suc n) a s l u =
        ap (λ (b : Bool). eqb a s || b)
        (some_same (length c.parents) (by_step c s (within m c a)) (by_step c s (within n c a))
        (λ k h. same_step s k (within m c a) (within n c a) (λ e. enough m n a (parent_at c k).parent (omega (arith, lower k h)) (omega (arith, lower k h)))))

    -- reached is the schema itself, or what is reached from a parent
    pub reaches_step : (s a : ℕ) → reaches c s a ≡ (eqb a s || some (length c.parents) (by_step c s (λ t. reaches c t a)))
    reaches_step s a =
        enough s (suc s) a s (omega arith) (omega arith)
        ∙ ap (λ (b : Bool). eqb a s || b)
        (some_same (length c.parents) (by_step c s (within s c a)) (by_step c s (λ t. reaches c t a))
        (λ k h. same_step s k (within s c a) (λ t. reaches c t a) (λ e. enough s (parent_at c k).parent a (parent_at c k).parent (omega (arith, lower k h)) (omega arith))))

    pub reaches_from : (s a : ℕ) → Reached c s a → reaches c s a ≡ true
    reaches_from s a none = itself s s
    reaches_from s a (step k l e up) =
        reaches_step s a
        ∙ or_right (eqb a s) _
        (some_here (by_step c s (λ t. reaches c t a)) k (length c.parents) l (and_from _ _ (eq-eqb _ _ e) (reaches_from (parent_at c k).parent a up)))

pub reaches_means : ReachesMeans
reaches_means p s a = (reached_from (says p) s a s, reaches_from (says p) p.kept.upward s a)

pub reaches_itself : ReachesItself
reaches_itself p s = itself (says p) s s

pub reaches_on : ReachesOn
reaches_on p s t a h k = reaches_from (says p) p.kept.upward s a (reached_on (says p) s t a (reached_from (says p) s t s h) (reached_from (says p) t a t k))
