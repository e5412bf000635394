-- The kinds that may stand at a place of the list, and what is not there yet.
use Rattle.std.proofs.Common.{◌≡◌, ℕ, ◌≤◌, Bool, true, false, cond, ◌&&◌, eqb, leb, [], sym, refl, ap, ◌∙◌, arith, leb-true}
use Rattle.std.proofs.lemmas.List.{nil_from_length}
use Rattle.std.proofs.lemmas.Bool.{and_parts, both_ways, eqb-true, le-leb}
use Rattle.std.proofs.lemmas.Bool.Decides.{nat_tests}
use Rattle.wordlist.specs.Fields.{kind_of}
use Rattle.policy.specs.Contents.{Content}
use Rattle.policy.specs.Rules.{turn_as, rises_as, least_kind}

-- one of six tests holds
pick : {X : Type 0} (a b c d e f u v w x y z : Bool) → cond a u (cond b v (cond c w (cond d x (cond e y (cond f z false))))) ≡ true
    → (a ≡ true → X) → (b ≡ true → X) → (c ≡ true → X) → (d ≡ true → X) → (e ≡ true → X) → (f ≡ true → X) → X
pick true b c d e f u v w x y z h p q r s t o = p refl
pick false true c d e f u v w x y z h p q r s t o = q refl
pick false false true d e f u v w x y z h p q r s t o = r refl
pick false false false true e f u v w x y z h p q r s t o = s refl
pick false false false false true f u v w x y z h p q r s t o = t refl
pick false false false false false true u v w x y z h p q r s t o = o refl
pick false false false false false false u v w x y z h p q r s t o = absurd (both_ways false refl h)

-- a word of kind k after the badges: kinds of n and above have no record yet where k is n
pub record Later (c : Content) (k n : ℕ) : Type 0 where
  pub kind : k ≡ n
  pub badges : eqb c.badges 0 ≡ false
  pub least : leb (least_kind c) n ≡ true

-- the kinds that may stand
pub data Turned (c : Content) (k : ℕ) : Type 0 where
  front : eqb c.badges 0 ≡ true → k ≡ 7 → Turned c k
  schema : Later c k 8 → Turned c k
  parent : Later c k 9 → Turned c k
  role : Later c k 10 → Turned c k
  schema_permission : Later c k 11 → Turned c k
  role_permission : Later c k 12 → Turned c k
  assignment : Later c k 13 → Turned c k

module _ (c : Content) (w : ℕ) where
  later : (k n : ℕ) → eqb c.badges 0 ≡ false → leb (least_kind c) k ≡ true → eqb k n ≡ true → Later c k n
  later k n b l e = let is = eqb-true k n e in record { kind = is; badges = b; least = ap (λ m. leb (least_kind c) m) (sym is) ∙ l }

  turned_by : (k : ℕ) (b : Bool) → eqb c.badges 0 ≡ b → cond b (eqb k 7) (leb (least_kind c) k && rises_as k c w) ≡ true → Turned c k
  turned_by k true is e = front is (eqb-true k 7 e)
  turned_by k false is e =
      let p = and_parts (leb (least_kind c) k) (rises_as k c w) e in
      pick (eqb k 8) (eqb k 9) (eqb k 10) (eqb k 11) (eqb k 12) (eqb k 13) _ _ _ _ _ _ p.1
      (λ e. schema (later k 8 is p.0 e)) (λ e. parent (later k 9 is p.0 e)) (λ e. role (later k 10 is p.0 e))
      (λ e. schema_permission (later k 11 is p.0 e)) (λ e. role_permission (later k 12 is p.0 e)) (λ e. assignment (later k 13 is p.0 e))

  -- a word in its turn
  pub turned : (k : ℕ) → turn_as k c w ≡ true → Turned c k
  turned k e = turned_by k (eqb c.badges 0) refl e

  front_from : (k : ℕ) → Turned c k → (k ≡ 8 → ⊥) → (k ≡ 9 → ⊥) → (k ≡ 10 → ⊥) → (k ≡ 11 → ⊥) → (k ≡ 12 → ⊥) → (k ≡ 13 → ⊥) → (c.badges ≡ 0) × (k ≡ 7)
  front_from k (front z e) n8 n9 n10 n11 n12 n13 = (eqb-true c.badges 0 z, e)
  front_from k (schema l) n8 n9 n10 n11 n12 n13 = absurd (n8 l.kind)
  front_from k (parent l) n8 n9 n10 n11 n12 n13 = absurd (n9 l.kind)
  front_from k (role l) n8 n9 n10 n11 n12 n13 = absurd (n10 l.kind)
  front_from k (schema_permission l) n8 n9 n10 n11 n12 n13 = absurd (n11 l.kind)
  front_from k (role_permission l) n8 n9 n10 n11 n12 n13 = absurd (n12 l.kind)
  front_from k (assignment l) n8 n9 n10 n11 n12 n13 = absurd (n13 l.kind)

  -- a word that is no record stands in front
  pub front_of : turn_as (kind_of w) c w ≡ true → (kind_of w ≡ 8 → ⊥) → (kind_of w ≡ 9 → ⊥) → (kind_of w ≡ 10 → ⊥) → (kind_of w ≡ 11 → ⊥) → (kind_of w ≡ 12 → ⊥) → (kind_of w ≡ 13 → ⊥) → (c.badges ≡ 0) × (kind_of w ≡ 7)
  front_of e = front_from (kind_of w) (turned (kind_of w) e)

pub higher : (n m k : ℕ) → m ≤ k → leb n m ≡ true → leb n k ≡ true
higher n m k le e = le-leb n k (let l = leb-true n m e in omega arith)

-- where the least kind that may stand is n or lower, no record is of a kind above n
module _ (c : Content) where
  pub no_assignments : leb (least_kind c) 12 ≡ true → c.assignments ≡ []
  no_assignments e = nil_from_length c.assignments (grind (arith, nat_tests))

  pub no_role_permissions : leb (least_kind c) 11 ≡ true → c.role_permissions ≡ []
  no_role_permissions e = nil_from_length c.role_permissions (grind (arith, nat_tests))

  pub no_schema_permissions : leb (least_kind c) 10 ≡ true → c.schema_permissions ≡ []
  no_schema_permissions e = nil_from_length c.schema_permissions (grind (arith, nat_tests))

  pub no_roles : leb (least_kind c) 9 ≡ true → c.roles ≡ []
  no_roles e = nil_from_length c.roles (grind (arith, nat_tests))

  pub no_parents : leb (least_kind c) 8 ≡ true → c.parents ≡ []
  no_parents e = nil_from_length c.parents (grind (arith, nat_tests))
