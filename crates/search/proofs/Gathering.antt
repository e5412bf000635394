-- A set that is filled with what passes.
use Rattle.std.proofs.Common.{◌≡◌, ℕ, ◌+◌, ◌^◌, ◌<◌, ◌≤◌, Bool, true, false, cond, ◌&&◌, ◌||◌, eqb, ltb, List, [], ◌∷◌, Some, Bor, sym, refl, ap, ◌∙◌, subst, arith}
use Rattle.std.specs.Fn.{Mut, Called, CalledAt}
use Rattle.std.specs.Iterator.{Yields, Drains}
use Rattle.std.specs.Iterator.Adapters.{filter_source, filter_callee, filter_steps}
use Rattle.std.specs.List.{FoldsTo}
use Rattle.std.proofs.iter.Yields.{nat_range_steps}
use Rattle.std.specs.declared.iter.Filter.{Filter}
use Rattle.std.specs.declared.ops.Range.{Range}
use Rattle.std.proofs.lemmas.Bool.{lt-ltb}
use Rattle.sets.specs.declared.Set64.{Set64}
use Rattle.sets.specs.Member.{member}
use Rattle.sets.proofs.Filled.{Filled, filled_none, filled_with, filled_skip}
use Rattle.sets.proofs.Words.{word_from}
use Rattle.search.specs.Gathered.{gathered}

as_test : (a b : Bool) → cond a b false ≡ (a && b)
as_test true b = refl
as_test false b = refl

-- all numbers were asked
all_asked : (f : ℕ → Bool) (n s : ℕ) → n ≡ 64 → Filled f n s → (j : ℕ) → member s j ≡ (ltb j 64 && f j)
all_asked f n s e h j = h j ∙ ap (λ m. cond (ltb j m) (f j) false) e ∙ as_test (ltb j 64) (f j)

-- what is known while a set is filled from a range up to 64: its numbers below the range's start, and that the test stays as it was
abbrev SoFar : {F : Type 0} → (ℕ → Bool) → F → Filter (Range ℕ) F → Set64 → Type 0
SoFar p f s a = (filter_callee s ≡ f) × ((filter_source s).end ≡ 64) × ((filter_source s).start ≤ 64) × Filled p (filter_source s).start a.bits

module _ {F H : Type 0} (g : Mut F (Bor ℕ × Unit {0}) Bool) (k : Mut H (Set64 × (ℕ × Unit {0})) Set64) (p : ℕ → Bool) (f : F) (h : H)
    (asks : (x : ℕ) (b : Bool) (q : F) → CalledAt g f x b q → (q ≡ f) × (x < 64 → b ≡ p x))
    (puts : (a : Set64) (x : ℕ) (b : Set64) (q : H) → Called k h (a, (x, tt)) b q → (q ≡ h) × ((j : ℕ) → member b.bits j ≡ (member a.bits j || (ltb x 64 && eqb j x)))) where
  -- numbers that fail are passed over
  skipped : (xs : List ℕ) (s t : Range ℕ) (w q : F) (m : ℕ) → w ≡ f → s.end ≡ 64 → s.start ≤ 64 → Filled p s.start m → Yields nat_range_steps s xs t → FoldsTo (λ w x q. CalledAt g w x false q) w xs q
      → (q ≡ f) × (t.end ≡ 64) × (t.start ≤ 64) × Filled p t.start m
  skipped [] s t w q m a e l i y c = subst (λ (r : Range ℕ). (q ≡ f) × (r.end ≡ 64) × (r.start ≤ 64) × Filled p r.start m) y (sym c ∙ a, e, l, i)
  skipped (x ∷ xs) s t w q m a e l i y c =
      let d = asks x false c.0 (subst (λ v. CalledAt g v x false c.0) a c.1) in
      let below : s.start < 64 = omega (arith, y.1.1.0, e) in
      let here : p s.start ≡ false = ap p (sym y.1.1.1) ∙ sym (d.1 (omega (arith, below, y.1.1.1))) in
      skipped xs y.0 t c.0 q m d.0 (y.1.0 ∙ e) (omega (arith, below, y.1.1.2)) (subst (λ n. Filled p n m) (sym y.1.1.2) (filled_skip p s.start m here i)) y.2 c.2

  -- one number more that passes is put in
  put : (s t : Filter (Range ℕ) F) (a b : Set64) (x : ℕ) (q : H) → SoFar p f s a → filter_steps nat_range_steps g s (Some x) t → Called k h (a, (x, tt)) b q → (q ≡ h) × SoFar p f t b
  put s t a b x q i y c =
      let m = skipped y.0 (filter_source s) y.2.0 (filter_callee s) y.1 a.bits i.0 i.1 i.2 i.3 y.2.1 y.3 in
      let d = asks x true (filter_callee t) (subst (λ v. CalledAt g v x true (filter_callee t)) m.0 y.4) in
      let n = puts a x b q c in
      let step = y.2.2 in
      let below : x < 64 = omega (arith, step.1.0, step.1.1, m.1) in
      let more : Filled p (x + 1) b.bits = filled_with p x a.bits b.bits below (sym (d.1 below)) n.1 (subst (λ v. Filled p v a.bits) (sym step.1.1) m.3) in
      (n.0, (d.0, step.0 ∙ m.1, omega (arith, below, step.1.1, step.1.2), subst (λ v. Filled p v b.bits) (ap (λ v. v + 1) step.1.1 ∙ sym step.1.2) more))

  -- and so all of them
  all_put : (zs : List ℕ) (s t : Filter (Range ℕ) F) (a r : Set64) (v w : H) → v ≡ h → SoFar p f s a → Yields (filter_steps nat_range_steps g) s zs t
      → FoldsTo {P = H × Set64} (λ a x b. Called k a.0 (a.1, (x, tt)) b.1 b.0) (v, a) zs (w, r) → SoFar p f t r
  all_put [] s t a r v w e i y c = subst (λ u. SoFar p f u r) y (subst (λ (u : H × Set64). SoFar p f s u.1) c i)
  all_put (x ∷ zs) s t a r v w e i y c =
      let m = put s y.0 a c.0.1 x c.0.0 i y.1 (subst (λ u. Called k u (a, (x, tt)) c.0.1 c.0.0) e c.1) in
      all_put zs y.0 t c.0.1 r c.0.0 w m.0 m.1 y.2 c.2

  -- the numbers that pass, put into the set of nothing
  pub all_found : (s : Filter (Range ℕ) F) (a r : Set64) → filter_source s ≡ record { start = 0; end = 64 } → filter_callee s ≡ f → ((j : ℕ) → member a.bits j ≡ false)
      → (zs : List ℕ) × (q : H) × Drains (filter_steps nat_range_steps g) s zs × FoldsTo {P = H × Set64} (λ a x b. Called k a.0 (a.1, (x, tt)) b.1 b.0) (h, a) zs (q, r)
      → (j : ℕ) → member r.bits j ≡ (ltb j 64 && p j)
  all_found s a r source callee none d =
      let start : SoFar p f s a = (callee, ap (λ (r : Range ℕ). r.end) source, omega (arith, ap (λ (r : Range ℕ). r.start) source), subst (λ (r : Range ℕ). Filled p r.start a.bits) (sym source) (filled_none p a.bits none)) in
      let i = all_put d.0 s d.2.1.0 a r h d.1 refl start d.2.1.1 d.3 in
      let y = d.2.1.2 in
      let m = skipped y.0 (filter_source d.2.1.0) y.2.0 (filter_callee d.2.1.0) y.1 r.bits i.0 i.1 i.2 i.3 y.2.1 y.3 in
      all_asked p y.2.0.start r.bits (omega (arith, m.1, m.2, y.2.2.1.0)) m.3

-- a word with these bits is their set
pub is_gathered : (f : ℕ → Bool) (s : Set64) → s.bits < 2 ^ 64 → ((j : ℕ) → member s.bits j ≡ (ltb j 64 && f j)) → s ≡ gathered f
unfolding gathered
is_gathered f s fits found = λ i. record { bits = word_from 64 s.bits f fits (λ k l. found k ∙ ap (λ (b : Bool). b && f k) (lt-ltb k 64 l)) i }
