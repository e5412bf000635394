-- A survey that keeps what a hall says.
use Rattle.std.proofs.Common.{◌≡◌, ℕ, ◌<◌, ◌≤◌, Bool, true, false, not, ◌&&◌, ◌||◌, ltb, List, length, Option, sym, refl, ap, ◌∙◌, ⊎_elim, arith}
use Rattle.std.proofs.lemmas.List.{get_or_past}
use Rattle.std.proofs.lemmas.List.FromFn.{fill_by_all}
use Rattle.std.proofs.lemmas.Bool.{lt-ltb, cases_Bool, cases_lt}
use Rattle.sets.specs.Bounds.{every, some}
use Rattle.sets.specs.declared.Set64.{Set64}
use Rattle.sets.proofs.Bounds.{some_same, every_same}
use Rattle.sets.proofs.Words.{word_from}
use Rattle.plan.specs.Hall.{Hall, type_at}
use Rattle.plan.specs.Lying.{has_point, lies_in, shares, of_type, lies_in_some, type_lies}
use Rattle.survey.specs.declared.Seen.{Seen}
use Rattle.survey.specs.declared.Survey.{Survey}
use Rattle.survey.specs.Entries.{nothing, entry}
use Rattle.survey.specs.Kept.{Tied, seen_of, survey_of, is_type, kept_of, kept_holds, kept_lies, kept_lies_in_some, kept_fits, kept_type_lies}
use Rattle.survey.proofs.Lying.{shares_itself, empty_lies, point_in_use, lies_in_use}
use Rattle.survey.proofs.Pass.{lies_cell, shares_cell, SeenTo}
use Rattle.survey.proofs.Types.{type_in_use, type_past}

and_true : (b : Bool) → (b && true) ≡ b
and_true true = refl
and_true false = refl

-- the type, from what is known of the numbers below 64
types_from : (h : Hall) (places : List Seen) (i : ℕ) → length h.places ≤ 64 → length places ≡ 64 → (i < 64 → (entry places i).ty ≡ type_at h i) → (entry places i).ty ≡ type_at h i
types_from h places i few full low =
    ⊎_elim
    (λ (l : i < 64). low l)
    (λ (l : 64 ≤ i). ap (λ (s : Seen). s.ty) (get_or_past places i nothing (omega arith)) ∙ sym (type_past h i (omega arith)))
    (cases_lt i 64)

-- lying, from what is known of the numbers below 64
lies_from : (h : Hall) (i j : ℕ) (cell point : Bool) → length h.places ≤ 64 → point ≡ has_point h i → (i < 64 → cell ≡ (lies_in h i j && ltb j 64)) → (not point || cell) ≡ lies_in h i j
lies_from h i j cell point few e low =
    ap (λ (b : Bool). not b || cell) e ∙ ⊎_elim
    (λ (p : has_point h i ≡ true).
    let l = point_in_use h i p in
    ap (λ (b : Bool). not b || cell) p ∙ low (omega arith) ∙ ⊎_elim
    (λ (m : j < 64). ap (λ (b : Bool). lies_in h i j && b) (lt-ltb j 64 m) ∙ and_true (lies_in h i j))
    (λ (m : 64 ≤ j). ap (λ (b : Bool). b && ltb j 64) (lies_in_use h i j p (omega arith)) ∙ sym (lies_in_use h i j p (omega arith)))
    (cases_lt j 64))
    (λ (p : has_point h i ≡ false). ap (λ (b : Bool). not b || cell) p ∙ sym (empty_lies h i j p))
    (cases_Bool (has_point h i))

module _ (h : Hall) (s : Survey) (few : length h.places ≤ 64) (count : s.count ≡ length h.places) (seen : SeenTo h s.places 0 h.height) where
  -- when all rows are seen, the survey is tied to the hall
  pub tied_from : Tied h s
  tied_from = record {
    count = count;
    types = λ i. types_from h s.places i few seen.full (seen.types i);
    points = λ i. seen.shares i i ∙ shares_itself h i;
    lies = λ i j. lies_from h i j (lies_cell s.places i j) (shares_cell s.places i i) few (seen.shares i i ∙ shares_itself h i) (seen.lies i j);
    shares = seen.shares;
  }

  seen_is : (i : ℕ) → i < 64 → entry s.places i ≡ seen_of h i
  seen_is i l =
      rebuilt (seen.types i l)
      (set_from (word_from 64 (entry s.places i).lies.bits (lies_in h i) (seen.whole i l).0 (λ j m. seen.lies i j l ∙ ap (λ (b : Bool). lies_in h i j && b) (lt-ltb j 64 m) ∙ and_true (lies_in h i j))))
      (set_from (word_from 64 (entry s.places i).shares.bits (shares h i) (seen.whole i l).1 (λ j m. seen.shares i j)))
    where
      set_from : {n m : ℕ} → n ≡ m → ◌≡◌ {A = Set64} (record { bits = n }) (record { bits = m })
      set_from e = cc

      rebuilt : {t u : Option ℕ} {ls ms ss rs : Set64} → t ≡ u → ls ≡ ms → ss ≡ rs
          → ◌≡◌ {A = Seen} (record { ty = t; lies = ls; shares = ss }) (record { ty = u; lies = ms; shares = rs })
      rebuilt e f g = cc

  -- and it is the one of the hall
  pub survey_from : s ≡ survey_of h
  survey_from = rebuilt count (fill_by_all (seen_of h) s.places 64 nothing seen.full seen_is)
    where
      rebuilt : {n m : ℕ} {ps qs : List Seen} → n ≡ m → ps ≡ qs → ◌≡◌ {A = Survey} (record { count = n; places = ps }) (record { count = m; places = qs })
      rebuilt e f = cc

-- what a tied survey tells of types
module _ (h : Hall) (s : Survey) (tied : Tied h s) where
  pub of_tied : (t i : ℕ) → i < length h.places → kept_of s t i ≡ of_type h t i
  of_tied t i l = ap (is_type t) (tied.types i ∙ type_in_use h i l)

  holds_tied : (t i j : ℕ) → j < length h.places → kept_holds s t i j ≡ (of_type h t j && lies_in h i j)
  holds_tied t i j l = ap (λ (b : Bool). b && kept_lies s i j) (of_tied t j l) ∙ ap (λ (b : Bool). of_type h t j && b) (tied.lies i j)

  pub lies_in_some_tied : (t i : ℕ) → kept_lies_in_some s t i ≡ lies_in_some h t i
  lies_in_some_tied t i = ap (λ (n : ℕ). some n (kept_holds s t i)) tied.count ∙ some_same (length h.places) (kept_holds s t i) (λ j. of_type h t j && lies_in h i j) (λ j l. holds_tied t i j l)

  fits_tied : (a b i : ℕ) → i < length h.places → kept_fits s a b i ≡ (not (of_type h a i) || lies_in_some h b i)
  fits_tied a b i l = ap (λ (t : Bool). not t || kept_lies_in_some s b i) (of_tied a i l) ∙ ap (λ (t : Bool). not (of_type h a i) || t) (lies_in_some_tied b i)

  pub type_lies_tied : (a b : ℕ) → kept_type_lies s a b ≡ type_lies h a b
  type_lies_tied a b = ap (λ (n : ℕ). every n (kept_fits s a b)) tied.count ∙ every_same (length h.places) (kept_fits s a b) (λ i. not (of_type h a i) || lies_in_some h b i) (λ i l. fits_tied a b i l)
