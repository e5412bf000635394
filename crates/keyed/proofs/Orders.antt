-- Lists whose keys rise.
use Rattle.std.proofs.Common.{◌≡◌, ℕ, zero, suc, ◌+◌, ◌-◌, ◌<◌, ◌≤◌, Bool, true, false, cond, nat_lt, ◌&&◌, ◌||◌, List, [], ◌∷◌, ◌++◌, length, get_or, is_some, IfSome, Some, None, Option, sym, refl, ap, ◌∙◌, ⊎_elim, add-one, arith}
use Rattle.std.specs.declared.cmp.Ordering.{Ordering}
use Rattle.std.specs.declared.cmp.Ordering.TheVariants.{Less, Equal, Greater}
use Rattle.std.specs.Ordering.{is_lt, is_some_and, ordering_reverse, partial_lt}
use Rattle.std.specs.Cmp.{IsTotalOrder}
use Rattle.std.specs.List.{HoldsAt, IsAllAdjacentAnswer}
use Rattle.std.proofs.lemmas.List.{get_or_default}
use Rattle.std.proofs.lemmas.Bool.{and_parts, and_from, and_left, and_right, or_left, or_right, cond-true, cond-false, cases_lt, not_from_true, not_from_false, both_ways}
use Rattle.std.proofs.lemmas.Cmp.{tied_itself, tied_back}
use Rattle.std.proofs.lemmas.Map.Lookups.{CmpEqualImpliesEq}
use Rattle.keyed.specs.Orders.{below, Irreflexive, Transitive, Total, rising, follows, alike, find_from, find_of, has, placed}

module _ {R K : Type 0} (less : K → K → Bool) (key : R → K) where
  -- the last record decides what may follow
  pub follows_last : (xs : List R) (k : K) (x : R) → 0 < length xs → x ≡ get_or xs (length xs - 1) x → less (key x) k ≡ follows less key xs k
  follows_last [] k x some is = absurd (omega arith)
  follows_last (y ∷ []) k x some is = ap (λ z. less (key z) k) is
  follows_last (y ∷ z ∷ zs) k x some is =
      let e : length (y ∷ z ∷ zs) - 1 ≡ suc (length (z ∷ zs) - 1) = omega arith in
      follows_last (z ∷ zs) k x (omega arith) (is ∙ ap (λ n. get_or (y ∷ z ∷ zs) n x) e)

  -- what may follow keeps the keys rising, and nothing else does
  pub rising_push : (xs : List R) (x : R) → rising less key (xs ++ x ∷ []) ≡ (rising less key xs && follows less key xs (key x))
  rising_push [] x = refl
  rising_push (y ∷ []) x = and_true (less (key y) (key x))
    where
      and_true : (b : Bool) → (b && true) ≡ (true && b)
      and_true true = refl
      and_true false = refl
  rising_push (y ∷ z ∷ zs) x = ap (λ b. less (key y) (key z) && b) (rising_push (z ∷ zs) x) ∙ and_assoc (less (key y) (key z)) _ _
    where
      and_assoc : (a b c : Bool) → (a && (b && c)) ≡ ((a && b) && c)
      and_assoc true b c = refl
      and_assoc false b c = refl

  pub rising_placed : (most : ℕ) (xs : List R) (x : R) → rising less key xs ≡ true → follows less key xs (key x) ≡ true → rising less key (placed most xs x) ≡ true
  rising_placed most xs x up next = either (nat_lt (length xs) most)
    where
      either : (fits : Bool) → rising less key (cond fits (xs ++ x ∷ []) xs) ≡ true
      either true = rising_push xs x ∙ and_from _ _ up next
      either false = up

  -- each record and the next
  pub all_rising : (xs : List R) → ((k : ℕ) (d : R) → suc k < length xs → less (key (get_or xs k d)) (key (get_or xs (suc k) d)) ≡ true) → rising less key xs ≡ true
  all_rising [] h = refl
  all_rising (x ∷ []) h = refl
  all_rising (x ∷ y ∷ ys) h = and_from _ _ (h 0 x (omega arith)) (all_rising (y ∷ ys) (λ k d l. h (suc k) d (omega arith)))

  pub some_falling : (xs : List R) (k : ℕ) → suc k < length xs → ((d : R) → less (key (get_or xs k d)) (key (get_or xs (suc k) d)) ≡ false) → rising less key xs ≡ false
  some_falling [] k l h = absurd (omega arith)
  some_falling (x ∷ []) k l h = absurd (omega arith)
  some_falling (x ∷ y ∷ ys) zero l h = ap (λ b. b && rising less key (y ∷ ys)) (h x)
  some_falling (x ∷ y ∷ ys) (suc k) l h = and_false (less (key x) (key y)) _ (some_falling (y ∷ ys) k (omega arith) h)
    where
      and_false : (a b : Bool) → b ≡ false → (a && b) ≡ false
      and_false true b e = e
      and_false false b e = refl

  -- what a test of each record and the next answers
  pub rising_answer : (xs : List R) (r : Bool) → IsAllAdjacentAnswer (λ x y b. b ≡ less (key x) (key y)) xs r → r ≡ rising less key xs
  rising_answer xs true h = sym (all_rising xs (λ k d l. rw (add-one k) at (sym (h k d (rw (add-one k) l)))))
  rising_answer xs false h = sym (some_falling xs h.0 (rw (add-one h.0) at h.1) (λ d. rw (add-one h.0) at (sym (h.2 d))))

  -- a linear search
  pub found_at : (xs : List R) (k : K) (i m : ℕ) (d : R) → m < length xs → ((j : ℕ) → j < m → alike less (key (get_or xs j d)) k ≡ false) → alike less (key (get_or xs m d)) k ≡ true → find_from less key k i xs ≡ Some (i + m)
  found_at [] k i m d lt before here = absurd (omega arith)
  found_at (x ∷ xs) k i zero d lt before here = let e : i ≡ i + 0 = omega arith in cond-true _ _ _ here ∙ ap Some e
  found_at (x ∷ xs) k i (suc m) d lt before here =
      let e : i + 1 + m ≡ i + suc m = omega arith in
      cond-false _ _ _ (before 0 (omega arith)) ∙ found_at xs k (i + 1) m d (omega arith) (λ j h. before (suc j) (omega arith)) here ∙ ap Some e

  pub none_at : (xs : List R) (k : K) (i : ℕ) → ((j : ℕ) (d : R) → j < length xs → alike less (key (get_or xs j d)) k ≡ false) → find_from less key k i xs ≡ None
  none_at [] k i all = refl
  none_at (x ∷ xs) k i all = cond-false _ _ _ (all 0 x (omega arith)) ∙ none_at xs k (i + 1) (λ j d h. all (suc j) d (omega arith))

  pub below_apart : (a b : K) → less a b ≡ true → alike less a b ≡ false
  below_apart a b e = and_left _ _ (not_from_true _ e)

  pub above_apart : (a b : K) → less b a ≡ true → alike less a b ≡ false
  above_apart a b e = and_right _ _ (not_from_true _ e)

  found_or : (b : Bool) (i : ℕ) (rest : Option ℕ) (others : Bool) → is_some rest ≡ others → is_some (cond b (Some i) rest) ≡ (b || others)
  found_or true i rest others e = refl
  found_or false i rest others e = e

  -- a key is found if a record has it
  pub found_has : (xs : List R) (k : K) (i : ℕ) → is_some (find_from less key k i xs) ≡ has less key k xs
  found_has [] k i = refl
  found_has (x ∷ xs) k i = found_or (alike less (key x) k) i (find_from less key k (i + 1) xs) (has less key k xs) (found_has xs k (i + 1))

  -- a record at some place has the key
  pub has_at : (irreflexive : Irreflexive less) (xs : List R) (k : K) (i : ℕ) → i < length xs → HoldsAt (λ x. key x ≡ k) xs i → has less key k xs ≡ true
  has_at irr [] k i lt at = absurd (omega arith)
  has_at irr (x ∷ xs) k zero lt at =
      or_left _ _ (ap (λ a. alike less a k) (at x) ∙ and_from _ _ (not_from_false _ (irr k)) (not_from_false _ (irr k)))
  has_at irr (x ∷ xs) k (suc i) lt at = or_right (alike less (key x) k) _ (has_at irr xs k i (omega arith) (λ d. at d))

  -- what a search of the records ys tells of the records xs, which they are
  pub has_value : (xs ys : List R) (k : K) (o : Option ℕ) (r : Bool) → ys ≡ xs → r ≡ is_some o → (rising less key ys ≡ true → o ≡ find_of less key k ys) → rising less key xs ≡ true → r ≡ has less key k xs
  has_value xs ys k o r same is value up =
      is ∙ ap is_some (value (ap (rising less key) same ∙ up)) ∙ found_has ys k 0 ∙ ap (has less key k) same

  pub has_sure : (irreflexive : Irreflexive less) (xs ys : List R) (k : K) (o : Option ℕ) (r : Bool) → ys ≡ xs → r ≡ is_some o → IfSome o (λ i. i < length ys) → IfSome o (λ i. HoldsAt (λ x. key x ≡ k) ys i) → r ≡ true → has less key k xs ≡ true
  has_sure irr xs ys k None r same is lt at holds = absurd (let z : ◌≡◌ {A = ℕ} 0 1 = cc in omega arith)
  has_sure irr xs ys k (Some i) r same is lt at holds = ap (has less key k) (sym same) ∙ has_at irr ys k i lt at

  -- the keys before n are below k; the keys from n on are above it
  abbrev pub Before : List R → K → ℕ → Type 0
  Before xs k n = (i : ℕ) (d : R) → i < n → less (key (get_or xs i d)) k ≡ true

  abbrev pub After : List R → K → ℕ → Type 0
  After xs k n = (i : ℕ) (d : R) → n ≤ i → i < length xs → less k (key (get_or xs i d)) ≡ true

  module _ (trans : Transitive less) where
    above_head : (x : R) (xs : List R) → rising less key (x ∷ xs) ≡ true → (j : ℕ) (d : R) → j < length xs → less (key x) (key (get_or xs j d)) ≡ true
    above_head x [] up j d lt = absurd (omega arith)
    above_head x (y ∷ ys) up zero d lt = (and_parts (less (key x) (key y)) _ up).0
    above_head x (y ∷ ys) up (suc j) d lt =
        let p = and_parts (less (key x) (key y)) (rising less key (y ∷ ys)) up in
        trans _ _ _ p.0 (above_head y ys p.1 j d (omega arith))

    tail_rises : (x : R) (xs : List R) → rising less key (x ∷ xs) ≡ true → rising less key xs ≡ true
    tail_rises x [] up = refl
    tail_rises x (y ∷ ys) up = (and_parts (less (key x) (key y)) (rising less key (y ∷ ys)) up).1

    -- of two records the earlier one has the lower key
    pub far : (xs : List R) → rising less key xs ≡ true → (i j : ℕ) (d : R) → i < j → j < length xs → less (key (get_or xs i d)) (key (get_or xs j d)) ≡ true
    far [] up i j d a b = absurd (omega arith)
    far (x ∷ xs) up i zero d a b = absurd (omega arith)
    far (x ∷ xs) up zero (suc j) d a b = above_head x xs up j d (omega arith)
    far (x ∷ xs) up (suc i) (suc j) d a b = far xs (tail_rises x xs up) i j d (omega arith) (omega arith)

    pub low_more : (xs : List R) (k : K) (m : ℕ) (x : R) → rising less key xs ≡ true → m < length xs → x ≡ get_or xs m x → less (key x) k ≡ true → Before xs k (m + 1)
    low_more xs k m x up lt is e = λ i d h.
        let here : get_or xs m d ≡ x = get_or_default xs m d x lt ∙ sym is in
        ⊎_elim
        (λ below. trans _ _ _ (far xs up i m d below lt) (ap (λ y. less (key y) k) here ∙ e))
        (λ from. let same : i ≡ m = omega arith in ap (λ n. less (key (get_or xs n d)) k) same ∙ ap (λ y. less (key y) k) here ∙ e)
        (cases_lt i m)

    pub high_more : (xs : List R) (k : K) (m : ℕ) (x : R) → rising less key xs ≡ true → m < length xs → x ≡ get_or xs m x → less k (key x) ≡ true → After xs k m
    high_more xs k m x up lt is e = λ i d h in_range.
        let here : get_or xs m d ≡ x = get_or_default xs m d x lt ∙ sym is in
        ⊎_elim
        (λ above. trans _ _ _ (ap (λ y. less k (key y)) here ∙ e) (far xs up m i d above in_range))
        (λ to. let same : i ≡ m = omega arith in ap (λ n. less k (key (get_or xs n d))) same ∙ ap (λ y. less k (key y)) here ∙ e)
        (cases_lt m i)

    -- a linear search finds the record that has the key
    pub found : (xs : List R) (k : K) (m : ℕ) (x : R) → rising less key xs ≡ true → m < length xs → x ≡ get_or xs m x → key x ≡ k → alike less (key x) k ≡ true → Some m ≡ find_of less key k xs
    found xs k m x up lt is same e =
        let z : 0 + m ≡ m = omega arith in
        sym (found_at xs k 0 m x lt
        (λ j h. below_apart _ _ (ap (λ a. less (key (get_or xs j x)) a) (sym same ∙ ap key is) ∙ far xs up j m x h lt))
        (ap (λ y. alike less (key y) k) (sym is) ∙ e) ∙ ap Some z)

    -- and none where each key is below k or above it
    pub missing : (xs : List R) (k : K) (low high : ℕ) → high ≤ low → Before xs k low → After xs k high → None ≡ find_of less key k xs
    missing xs k low high met lows highs =
        sym (none_at xs k 0 (λ j d h. ⊎_elim (λ below. below_apart _ _ (lows j d below)) (λ from. above_apart _ _ (highs j d (omega arith) h)) (cases_lt j low)))

-- an order by `cmp`
module _ {K : Type 0} (cmp : K → K → Ordering) (total : IsTotalOrder cmp) where
  less_is : (o : Ordering) → is_lt o ≡ true → o ≡ Less
  less_is Less e = refl
  less_is Equal e = absurd (both_ways false refl e)
  less_is Greater e = absurd (both_ways false refl e)

  pub below_irreflexive : Irreflexive (below cmp)
  below_irreflexive a = ap is_lt (tied_itself total a)

  pub below_transitive : Transitive (below cmp)
  below_transitive a b c p q = ap is_lt (total.trans a b c (less_is _ p) (less_is _ q))

  pub turned : (a b : K) → cmp a b ≡ Greater → below cmp b a ≡ true
  turned a b e = ap is_lt (total.antisymm b a ∙ ap ordering_reverse e)

  -- keys that tie are alike
  pub tie_alike : (a b : K) → cmp a b ≡ Equal → alike (below cmp) a b ≡ true
  tie_alike a b e = and_from _ _ (not_from_false _ (ap is_lt e)) (not_from_false _ (ap is_lt (tied_back total a b e)))

  pub below_total : CmpEqualImpliesEq cmp → Total (below cmp)
  below_total exact a b p q = by_answer (cmp a b) refl
    where
      by_answer : (o : Ordering) → cmp a b ≡ o → a ≡ b
      by_answer Less e = absurd (both_ways (below cmp a b) p (ap is_lt e))
      by_answer Equal e = exact a b e
      by_answer Greater e = absurd (both_ways (below cmp b a) q (turned a b e))

-- `<` of keys whose `partial_cmp` answers as `cmp` does
pub less_below : {K : Type 0} (cmp : K → K → Ordering) (partial : K → K → Option Ordering) → ((a b : K) → partial a b ≡ Some (cmp a b)) → (a b : K) → partial_lt partial a b ≡ below cmp a b
less_below cmp partial agrees a b = ap (is_some_and is_lt) (agrees a b)
