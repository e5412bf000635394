-- The kind of a word, and its number.
use Rattle.std.proofs.Common.{◌≡◌, ℕ, Bool, ◌&&◌, eqb, leb, List, [], ◌∷◌, Option, Some, None, refl, sym, ap, ◌∙◌, arith}
use Rattle.std.proofs.Math.IntN.{ℤ, pos}
use denote.Enum.Bare.{sameb}
use Rattle.std.specs.Ordering.{int_cmp, is_le}
use Rattle.std.specs.Cmp.Derive.{number}
use Rattle.std.proofs.lemmas.Bool.{cond-true, cond-false, ne_eqb}
use Rattle.std.proofs.lemmas.Bool.Decides.{nat_tests}
use Rattle.wordlist.specs.Fields.{kind_of}
use Rattle.wordlist.specs.Kinds.{kind_named, number_of}
use Rattle.wordlist.specs.contracts.kinds.Kind.{the_type}
use Rattle.wordlist.specs.declared.kinds.Kind.{Kind}
use Rattle.wordlist.specs.declared.kinds.Kind.TheVariants.{Floor, Ring, Corner, Cells, Row, Zone, Badges, Schema, Parent, Role, SchemaPermission, RolePermission, Assignment}
use Rattle.policy.specs.Contents.{Content}
use Rattle.policy.specs.Rules.{by_kind, least_kind, rises_as, turn_as}
use Rattle.policy.proofs.Order.{Turned, front, schema, parent, role, schema_permission, role_permission, assignment}

-- the number of the kind that a number names
abbrev number_or : Option Kind → ℕ → ℕ
number_or None k = k
number_or (Some d) k = number_of d

number_back : (k : ℕ) → number_or (kind_named k) k ≡ k
number_back k = grind (arith, nat_tests)

pub number_named : (k : ℕ) (d : Kind) → kind_named k ≡ Some d → k ≡ number_of d
number_named k d e = sym (number_back k) ∙ ap (λ o. number_or o k) e

named_number : (d : Kind) → kind_named (number_of d) ≡ Some d
named_number Floor = refl
named_number Ring = refl
named_number Corner = refl
named_number Cells = refl
named_number Row = refl
named_number Zone = refl
named_number Badges = refl
named_number Schema = refl
named_number Parent = refl
named_number Role = refl
named_number SchemaPermission = refl
named_number RolePermission = refl
named_number Assignment = refl

one_kind : (d x : Kind) → ◌≡◌ {A = Option Kind} (Some d) (Some x) → d ≡ x
one_kind d x e = cc

no_kind : (x : Kind) → ◌≡◌ {A = Option Kind} None (Some x) → ⊥
no_kind x e = cc

-- a word of another kind
pub not_named : (k : ℕ) (d x : Kind) → kind_named k ≡ Some d → (d ≡ x → ⊥) → k ≡ number_of x → ⊥
not_named k d x named other e = other (one_kind d x (sym named ∙ ap kind_named e ∙ named_number x))

pub unnamed : (c : Content) (k : ℕ) → Turned c k → kind_named k ≡ None → ⊥
unnamed c k (front z is) e = no_kind Badges (sym e ∙ ap kind_named is)
unnamed c k (schema l) e = no_kind Schema (sym e ∙ ap kind_named l.kind)
unnamed c k (parent l) e = no_kind Parent (sym e ∙ ap kind_named l.kind)
unnamed c k (role l) e = no_kind Role (sym e ∙ ap kind_named l.kind)
unnamed c k (schema_permission l) e = no_kind SchemaPermission (sym e ∙ ap kind_named l.kind)
unnamed c k (role_permission l) e = no_kind RolePermission (sym e ∙ ap kind_named l.kind)
unnamed c k (assignment l) e = no_kind Assignment (sym e ∙ ap kind_named l.kind)

pub by_other : {A : Type 0} (k : ℕ) (s p r sp rp a other : A) → (k ≡ 8 → ⊥) → (k ≡ 9 → ⊥) → (k ≡ 10 → ⊥) → (k ≡ 11 → ⊥) → (k ≡ 12 → ⊥) → (k ≡ 13 → ⊥) → by_kind k s p r sp rp a other ≡ other
by_other k s p r sp rp a other n8 n9 n10 n11 n12 n13 =
    cond-false _ _ _ (ne_eqb k 8 n8) ∙ cond-false _ _ _ (ne_eqb k 9 n9) ∙ cond-false _ _ _ (ne_eqb k 10 n10)
    ∙ cond-false _ _ _ (ne_eqb k 11 n11) ∙ cond-false _ _ _ (ne_eqb k 12 n12) ∙ cond-false _ _ _ (ne_eqb k 13 n13)

-- the derived comparisons go by the numbers
same_badges : (d : Kind) → sameb the_type d Badges ≡ eqb (number_of d) 7
same_badges Floor = refl
same_badges Ring = refl
same_badges Corner = refl
same_badges Cells = refl
same_badges Row = refl
same_badges Zone = refl
same_badges Badges = refl
same_badges Schema = refl
same_badges Parent = refl
same_badges Role = refl
same_badges SchemaPermission = refl
same_badges RolePermission = refl
same_badges Assignment = refl

abbrev numbers : List ℤ
numbers = pos 1 ∷ pos 2 ∷ pos 3 ∷ pos 4 ∷ pos 5 ∷ pos 6 ∷ pos 7 ∷ pos 8 ∷ pos 9 ∷ pos 10 ∷ pos 11 ∷ pos 12 ∷ pos 13 ∷ []

number_read : (d : Kind) → number the_type numbers d ≡ pos (number_of d)
number_read Floor = refl
number_read Ring = refl
number_read Corner = refl
number_read Cells = refl
number_read Row = refl
number_read Zone = refl
number_read Badges = refl
number_read Schema = refl
number_read Parent = refl
number_read Role = refl
number_read SchemaPermission = refl
number_read RolePermission = refl
number_read Assignment = refl

int_le : (a b : ℕ) → is_le (int_cmp (pos a) (pos b)) ≡ leb a b
int_le a b = grind (arith, nat_tests)

kinds_le : (x y : Kind) → is_le (int_cmp (number the_type numbers x) (number the_type numbers y)) ≡ leb (number_of x) (number_of y)
kinds_le x y = rw (number_read x, number_read y) (int_le (number_of x) (number_of y))

module _ (c : Content) (w : ℕ) (d : Kind) (named : kind_named (kind_of w) ≡ Some d) where
  -- the first word is of the badges
  pub turn_first : (r : Bool) → c.badges ≡ 0 → r ≡ sameb the_type d Badges → r ≡ turn_as (kind_of w) c w
  turn_first r z is =
      is ∙ same_badges d ∙ ap (λ n. eqb n 7) (sym (number_named (kind_of w) d named))
      ∙ sym (cond-true (eqb c.badges 0) (eqb (kind_of w) 7) (leb (least_kind c) (kind_of w) && rises_as (kind_of w) c w) (ap (λ n. eqb n 0) z))

  -- the kinds after it never fall
  pub turn_later : (least : Kind) (r b : Bool) → (c.badges ≡ 0 → ⊥) → number_of least ≡ least_kind c → b ≡ is_le (int_cmp (number the_type numbers least) (number the_type numbers d)) → r ≡ (b && rises_as (kind_of w) c w) → r ≡ turn_as (kind_of w) c w
  turn_later least r b some least_is le is =
      is ∙ ap (λ x. x && rises_as (kind_of w) c w) (le ∙ kinds_le least d ∙ ap (λ n. leb n (number_of d)) least_is ∙ ap (leb (least_kind c)) (sym (number_named (kind_of w) d named)))
      ∙ sym (cond-false (eqb c.badges 0) (eqb (kind_of w) 7) (leb (least_kind c) (kind_of w) && rises_as (kind_of w) c w) (ne_eqb c.badges 0 some))
