-- One pass over the parents in their order closes them.
use Rattle.std.proofs.Common.{◌≡◌, ℕ, zero, suc, ◌+◌, ◌<◌, ◌≤◌, Bool, true, false, ◌&&◌, ◌||◌, eqb, List, [], ◌∷◌, length, get_or, set, sym, refl, ap, ◌∙◌, subst, ⊎_elim, arith, get_or-set_other, get_or-set_same}
use Rattle.std.proofs.lemmas.Bool.{cases_Bool, cases_eq, and_left, and_parts, eqb-true, eq-eqb, ne_eqb, ltb-true}
use Rattle.sets.specs.declared.Set64.{Set64}
use Rattle.sets.specs.Member.{member}
use Rattle.sets.specs.Bounds.{some}
use Rattle.sets.proofs.Bounds.{some_until, some_step}
use Rattle.keyed.specs.Orders.{rising}
use Rattle.keyed.specs.Models.{pair_less}
use Rattle.records.specs.declared.kinds.Parent.{Parent}
use Rattle.records.specs.Keys.{parent_key}
use Rattle.policy.specs.Contents.{Content, parent_at}
use Rattle.policy.specs.Facts.{Upward}
use Rattle.rights.specs.Reach.{by_step, reaches}
use Rattle.sets.specs.Rows.{cell}
use Rattle.rights.proofs.Reaching.{reaches_step}

child_below : (p q : Parent) → pair_less (parent_key p) (parent_key q) ≡ true → p.child ≤ q.child
child_below p q h =
    ⊎_elim
    (λ (e : eqb p.child q.child ≡ true). omega (arith, eqb-true _ _ e))
    (λ (e : eqb p.child q.child ≡ false). omega (arith, ltb-true p.child q.child (rw e at h)))
    (cases_Bool (eqb p.child q.child))

above_head : (x : Parent) (xs : List Parent) → rising pair_less parent_key (x ∷ xs) ≡ true → (j : ℕ) (d : Parent) → j < length xs → x.child ≤ (get_or xs j d).child
above_head x [] up j d lt = absurd (omega arith)
above_head x (y ∷ ys) up zero d lt = child_below x y (and_parts (pair_less (parent_key x) (parent_key y)) _ up).0
above_head x (y ∷ ys) up (suc j) d lt =
    let p = and_parts (pair_less (parent_key x) (parent_key y)) (rising pair_less parent_key (y ∷ ys)) up in
    omega (arith, child_below x y p.0, above_head y ys p.1 j d (omega arith))

tail_rises : (x : Parent) (xs : List Parent) → rising pair_less parent_key (x ∷ xs) ≡ true → rising pair_less parent_key xs ≡ true
tail_rises x [] up = refl
tail_rises x (y ∷ ys) up = (and_parts (pair_less (parent_key x) (parent_key y)) (rising pair_less parent_key (y ∷ ys)) up).1

-- children do not fall
children_rise : (xs : List Parent) → rising pair_less parent_key xs ≡ true → (k j : ℕ) (d : Parent) → k ≤ j → j < length xs → (get_or xs k d).child ≤ (get_or xs j d).child
children_rise [] up k j d l h = absurd (omega arith)
children_rise (x ∷ xs) up zero zero d l h = omega arith
children_rise (x ∷ xs) up zero (suc j) d l h = above_head x xs up j d (omega arith)
children_rise (x ∷ xs) up (suc k) zero d l h = absurd (omega arith)
children_rise (x ∷ xs) up (suc k) (suc j) d l h = children_rise xs (tail_rises x xs up) k j d (omega arith) (omega arith)

turned : (x y z w : Bool) → w ≡ z → ((x || y) || z) ≡ (x || (w || y))
turned true y z w e = refl
turned false true true w e = rw e
turned false true false w e = rw e
turned false false true w e = rw e
turned false false false w e = rw e

module _ (c : Content) where
  -- the first k records are in the rows
  abbrev pub Closed : ℕ → List Set64 → Type 0
  Closed k rows = (s a : ℕ) → s < 32 → cell rows s a ≡ (eqb a s || some k (by_step c s (λ t. reaches c t a)))

  module _ (upward : Upward c.parents) where
    lower : (k : ℕ) → k < length c.parents → (parent_at c k).parent < (parent_at c k).child
    lower k l = upward k (record { parent = 0; child = 0 }) l

    pub closed_all : (rows : List Set64) (k : ℕ) → k ≡ length c.parents → Closed k rows → (s a : ℕ) → s < 32 → cell rows s a ≡ reaches c s a
    closed_all rows k e h s a l = h s a l ∙ ap (λ n. eqb a s || some n (by_step c s (λ t. reaches c t a))) e ∙ sym (reaches_step c upward s a)

    module _ (rises : rising pair_less parent_key c.parents ≡ true) where
      -- the parent of the next record has all that it reaches
      parent_done : (k a : ℕ) (rows : List Set64) → k < length c.parents → (parent_at c k).parent < 32 → Closed k rows → cell rows (parent_at c k).parent a ≡ reaches c (parent_at c k).parent a
      parent_done k a rows l b h =
          let p = (parent_at c k).parent in
          h p a b
          ∙ ap (λ (t : Bool). eqb a p || t)
          (sym (some_until (length c.parents) k (by_step c p (λ t. reaches c t a)) (omega arith)
          (λ j m u. and_left _ _ (ne_eqb (parent_at c j).child p (λ (e : (parent_at c j).child ≡ p). omega (arith, lower k l, children_rise c.parents rises k j (record { parent = 0; child = 0 }) m u))))))
          ∙ sym (reaches_step c upward p a)

      closed_more : (k : ℕ) (rows : List Set64) (v : Set64) → k < length c.parents → length rows ≡ 32 → (parent_at c k).child < 32 → Closed k rows
          → ((a : ℕ) → member v.bits a ≡ (cell rows (parent_at c k).child a || cell rows (parent_at c k).parent a)) → Closed (k + 1) (set rows (parent_at c k).child v)
      closed_more k rows v l len b h new s a u =
          let q = (parent_at c k).child in
          let p = (parent_at c k).parent in
          ⊎_elim
          (λ (same : s ≡ q). rw same
          (ap (λ (w : Set64). member w.bits a) (get_or-set_same rows q v (record { bits = 0 }) (omega arith)) ∙ new a
          ∙ ap (λ (t : Bool). t || cell rows p a) (h q a b)
          ∙ ap (λ (t : Bool). (eqb a q || some k (by_step c q (λ t. reaches c t a))) || t) (parent_done k a rows l (omega (arith, lower k l)) h)
          ∙ turned (eqb a q) (some k (by_step c q (λ t. reaches c t a))) (reaches c p a) (by_step c q (λ t. reaches c t a) k) (ap (λ (t : Bool). t && reaches c p a) (eq-eqb q q refl))
          ∙ ap (λ (t : Bool). eqb a q || t) (sym (some_step (by_step c q (λ t. reaches c t a)) k))))
          (λ (other : s ≡ q → ⊥).
          ap (λ (w : Set64). member w.bits a) (get_or-set_other rows q s v (record { bits = 0 }) other) ∙ h s a u
          ∙ ap (λ (t : Bool). eqb a s || t)
          (sym (some_step (by_step c s (λ t. reaches c t a)) k ∙ ap (λ (t : Bool). t || some k (by_step c s (λ t. reaches c t a))) (and_left _ _ (ne_eqb q s (λ e. other (sym e)))))))
          (cases_eq s q)

      -- one turn of the loop, which reads record k as q
      pub closed_by : (k : ℕ) (rows : List Set64) (v : Set64) (q : Parent) → q ≡ parent_at c k → k < length c.parents → length rows ≡ 32 → Closed k rows → (parent_at c k).child < 32
          → ((a : ℕ) → member v.bits a ≡ (cell rows q.child a || cell rows q.parent a)) → Closed (k + 1) (set rows q.child v)
      closed_by k rows v q e l len h b =
          subst (λ (p : Parent). ((a : ℕ) → member v.bits a ≡ (cell rows p.child a || cell rows p.parent a)) → Closed (k + 1) (set rows p.child v)) (sym e)
          (closed_more k rows v l len b h)
