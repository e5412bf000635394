-- What the entries hold while the points of the floor are seen, row by row.
use Rattle.std.proofs.Common.{◌≡◌, ℕ, ◌+◌, ◌<◌, ◌≤◌, Bool, false, not, ◌&&◌, ◌||◌, ltb, List, length, sym, ap, subst, ◌∙◌, ⊎_elim, arith}
use Rattle.std.proofs.lemmas.Bool.{cases_lt}
use Rattle.std.proofs.lemmas.List.{get_or_past}
use Rattle.sets.specs.Bounds.{every, some}
use Rattle.sets.specs.Member.{member}
use Rattle.sets.proofs.Bits.{member_past}
use Rattle.plan.specs.Hall.{Hall, type_at, covers_at}
use Rattle.plan.proofs.Rows.{covers_past}
use Rattle.survey.specs.declared.Seen.{Seen}
use Rattle.survey.specs.Entries.{nothing, entry, Whole, Unseen, Changed, still_lies, now_shares}
use Rattle.survey.proofs.Points.{every_point, some_point, every_row, some_row}

-- number j is in the first set of entry i
abbrev pub lies_cell : List Seen → ℕ → ℕ → Bool
lies_cell places i j = member (entry places i).lies.bits j

-- number j is in the second set of entry i
abbrev pub shares_cell : List Seen → ℕ → ℕ → Bool
shares_cell places i j = member (entry places i).shares.bits j

-- at this point i does not leave j
abbrev pub lies_at : Hall → ℕ → ℕ → ℕ → ℕ → Bool
lies_at h i j x y = not (covers_at h i x y) || covers_at h j x y

-- this point is in both
abbrev pub shares_at : Hall → ℕ → ℕ → ℕ → ℕ → Bool
shares_at h i j x y = covers_at h i x y && covers_at h j x y

-- i does not leave j in the first n rows
abbrev pub lies_rows : Hall → ℕ → ℕ → ℕ → Bool
lies_rows h i j n = every n (λ y. every h.width (λ x. lies_at h i j x y))

-- some point of the first n rows is in both
abbrev pub shares_rows : Hall → ℕ → ℕ → ℕ → Bool
shares_rows h i j n = some n (λ y. some h.width (λ x. shares_at h i j x y))

-- the first y rows are seen, and of row y the first x points
pub record SeenTo (h : Hall) (places : List Seen) (x y : ℕ) : Type 0 where
  pub full : length places ≡ 64
  pub types : (i : ℕ) → i < 64 → (entry places i).ty ≡ type_at h i
  pub whole : (i : ℕ) → i < 64 → Whole (entry places i)
  pub lies : (i j : ℕ) → i < 64 → lies_cell places i j ≡ (every x (λ x. lies_at h i j x y) && (lies_rows h i j y && ltb j 64))
  pub shares : (i j : ℕ) → shares_cell places i j ≡ (some x (λ x. shares_at h i j x y) || shares_rows h i j y)

-- no place shares a point with a number past the entries
pub shares_past : (places : List Seen) (i j : ℕ) → length places ≤ i → shares_cell places i j ≡ false
shares_past places i j l = ap (λ (s : Seen). member s.shares.bits j) (get_or_past places i nothing l) ∙ member_past 0 0 j (omega arith) (omega arith)

module _ (h : Hall) where
  -- no point is seen
  pub seen_none : (places : List Seen) → length places ≡ 64 → ((i : ℕ) → i < 64 → Unseen (type_at h i) (entry places i)) → SeenTo h places 0 0
  seen_none places full each = record {
    full = full;
    types = λ i l. (each i l).ty;
    whole = λ i l. (each i l).whole;
    lies = λ i j l. (each i l).lies j;
    shares = λ i j. ⊎_elim (λ (l : i < 64). (each i l).shares j) (λ (l : 64 ≤ i). shares_past places i j (omega arith)) (cases_lt i 64);
  }

  -- one point more: the places of the word `at` cover it, and the entries of the n places were changed
  module _ (at n x y : ℕ) (xs ys : List Seen) (count : n ≡ length h.places) (is : (k : ℕ) → member at k ≡ covers_at h k x y) (new : Changed at n xs ys) where
    unseen : (i : ℕ) → n ≤ i → member at i ≡ false
    unseen i l = is i ∙ covers_past h x y i (omega arith)

    noted_lies : (i j : ℕ) → lies_cell ys i j ≡ still_lies at i j (lies_cell xs i j)
    noted_lies i j =
        ⊎_elim
        (λ (l : i < n). ((new i).0 l).lies j)
        (λ (l : n ≤ i). ap (λ (s : Seen). member s.lies.bits j) ((new i).1 l) ∙ sym (ap (λ (b : Bool). (not b || member at j) && lies_cell xs i j) (unseen i l)))
        (cases_lt i n)

    noted_shares : (i j : ℕ) → shares_cell ys i j ≡ now_shares at i j (shares_cell xs i j)
    noted_shares i j =
        ⊎_elim
        (λ (l : i < n). ((new i).0 l).shares j)
        (λ (l : n ≤ i). ap (λ (s : Seen). member s.shares.bits j) ((new i).1 l) ∙ sym (ap (λ (b : Bool). (b && member at j) || shares_cell xs i j) (unseen i l)))
        (cases_lt i n)

    pub seen_point : length ys ≡ 64 → SeenTo h xs x y → SeenTo h ys (x + 1) y
    seen_point full seen = record {
      full = full;
      types = λ i l. ⊎_elim (λ m. ((new i).0 m).ty ∙ seen.types i l) (λ m. ap (λ (s : Seen). s.ty) ((new i).1 m) ∙ seen.types i l) (cases_lt i n);
      whole = λ i l. ⊎_elim (λ m. ((new i).0 m).whole (seen.whole i l)) (λ m. subst Whole (sym ((new i).1 m)) (seen.whole i l)) (cases_lt i n);
      lies = λ i j l.
          every_point (λ x. lies_at h i j x y) x (lies_rows h i j y && ltb j 64) (lies_cell ys i j) (not (member at i) || member at j) (lies_cell xs i j)
          (noted_lies i j)
          (ap (λ (b : Bool). not b || member at j) (is i) ∙ ap (λ (b : Bool). not (covers_at h i x y) || b) (is j))
          (seen.lies i j l);
      shares = λ i j.
          some_point (λ x. shares_at h i j x y) x (shares_rows h i j y) (shares_cell ys i j) (member at i && member at j) (shares_cell xs i j)
          (noted_shares i j)
          (ap (λ (b : Bool). b && member at j) (is i) ∙ ap (λ (b : Bool). covers_at h i x y && b) (is j))
          (seen.shares i j);
    }

  -- one row more
  pub seen_row : (x y : ℕ) (places : List Seen) → x ≡ h.width → SeenTo h places x y → SeenTo h places 0 (y + 1)
  seen_row x y places done seen = record {
    full = seen.full;
    types = seen.types;
    whole = seen.whole;
    lies = λ i j l. every_row (lies_at h i j) h.width x y (lies_cell places i j) (ltb j 64) done (seen.lies i j l);
    shares = λ i j. some_row (shares_at h i j) h.width x y (shares_cell places i j) done (seen.shares i j);
  }
