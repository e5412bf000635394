-- An accepted list is exactly the words of the policy that it gave.
use Rattle.std.proofs.Common.{◌≡◌, ℕ, true, false, cond, eqb, leb, List, [], ◌∷◌, ◌++◌, map, length, Ok, Err, Result, sym, refl, ap, ◌∙◌, arith}
use Rattle.std.proofs.lemmas.List.{append_assoc, append-nil, map-append}
use Rattle.std.proofs.lemmas.Bool.{both_ways, cond-true, cond-false, eqb-true, ne_eqb}
use Rattle.wordlist.specs.declared.faults.RecordFault.{RecordFault}
use Rattle.wordlist.specs.Fields.{field, kind_of}
use Rattle.wordlist.specs.Reading.{Answer, read_of}
use Rattle.wordlist.specs.Spelling.{Adds}
use Rattle.wordlist.proofs.Spelling.{read_spelled, read_ends}
use Rattle.records.specs.Words.{badges_of, schema_of, parent_of, role_of, schema_permission_of, role_permission_of, assignment_of, badges_word, schema_word, parent_word, role_word, schema_permission_word, role_permission_word, assignment_word}
use Rattle.records.proofs.Spelled.{badges_word_spelled, schema_word_spelled, parent_word_spelled, role_word_spelled, schema_permission_word_spelled, role_permission_word_spelled, assignment_word_spelled}
use Rattle.policy.specs.Contents.{Content, none}
use Rattle.policy.specs.Rules.{policy_rules, sound_as, with_as, least_kind}
use Rattle.wordlist.specs.Outcomes.{given, answered, replaced}
use Rattle.policy.specs.Reading.{content_from}
use Rattle.policy.specs.Spelling.{record_words, spelled}
use Rattle.policy.proofs.Order.{Turned, front, schema, parent, role, schema_permission, role_permission, assignment, turned, higher, no_assignments, no_role_permissions, no_schema_permissions, no_roles, no_parents}
use Rattle.policy.proofs.Turns.{sound_badges_turn, sound_parent_turn, sound_role_turn, sound_schema_permission_turn, sound_role_permission_turn, sound_assignment_turn}

-- the words of what was read so far
abbrev written : Content → List ℕ
written c = cond (eqb c.badges 0) [] (spelled c)

-- no record stands before the badges
abbrev Good : Content → Type 0
Good c = eqb c.badges 0 ≡ true → record_words c ≡ []

-- one more record at the end of its kind, with nothing after it
at_end : {R : Type 0} (f : R → ℕ) (xs : List R) (x : R) (w : ℕ) (after : List ℕ) → f x ≡ w → after ≡ [] → map f (xs ++ x ∷ []) ++ after ≡ (map f xs ++ after) ++ w ∷ []
at_end f xs x w after same z =
    ap (λ l. map f (xs ++ x ∷ []) ++ l) z ∙ append-nil (map f (xs ++ x ∷ [])) ∙ map-append f xs (x ∷ []) ∙ ap (λ v. map f xs ++ v ∷ []) same
    ∙ ap (λ l. l ++ w ∷ []) (sym (append-nil (map f xs)) ∙ ap (λ l. map f xs ++ l) (sym z))

at_last : {R : Type 0} (f : R → ℕ) (xs : List R) (x : R) (w : ℕ) → f x ≡ w → map f (xs ++ x ∷ []) ≡ map f xs ++ w ∷ []
at_last f xs x w same = map-append f xs (x ∷ []) ∙ ap (λ v. map f xs ++ v ∷ []) same

-- below what stands before
under : (before xs ys : List ℕ) (w : ℕ) → ys ≡ xs ++ w ∷ [] → before ++ ys ≡ (before ++ xs) ++ w ∷ []
under before xs ys w e = ap (λ l. before ++ l) e ∙ sym (append_assoc before xs (w ∷ []))

join : (xs ys : List ℕ) → xs ≡ [] → ys ≡ [] → xs ++ ys ≡ []
join xs ys a b = ap (λ l. l ++ ys) a ∙ b

-- the words of the records of kinds above n
module _ (c : Content) where
  after_12 : leb (least_kind c) 12 ≡ true → map assignment_word c.assignments ≡ []
  after_12 l = ap (map assignment_word) (no_assignments c l)

  after_11 : leb (least_kind c) 11 ≡ true → map role_permission_word c.role_permissions ++ map assignment_word c.assignments ≡ []
  after_11 l = join _ _ (ap (map role_permission_word) (no_role_permissions c l)) (after_12 (higher (least_kind c) 11 12 (omega arith) l))

  after_10 : leb (least_kind c) 10 ≡ true → map schema_permission_word c.schema_permissions ++ (map role_permission_word c.role_permissions ++ map assignment_word c.assignments) ≡ []
  after_10 l = join _ _ (ap (map schema_permission_word) (no_schema_permissions c l)) (after_11 (higher (least_kind c) 10 11 (omega arith) l))

  after_9 : leb (least_kind c) 9 ≡ true → map role_word c.roles ++ (map schema_permission_word c.schema_permissions ++ (map role_permission_word c.role_permissions ++ map assignment_word c.assignments)) ≡ []
  after_9 l = join _ _ (ap (map role_word) (no_roles c l)) (after_10 (higher (least_kind c) 9 10 (omega arith) l))

  after_8 : leb (least_kind c) 8 ≡ true → map parent_word c.parents ++ (map role_word c.roles ++ (map schema_permission_word c.schema_permissions ++ (map role_permission_word c.role_permissions ++ map assignment_word c.assignments))) ≡ []
  after_8 l = join _ _ (ap (map parent_word) (no_parents c l)) (after_9 (higher (least_kind c) 8 9 (omega arith) l))

  -- a word after the badges
  later_adds : (w k : ℕ) (d : Content) → kind_of w ≡ k → with_as k c w ≡ d → eqb c.badges 0 ≡ false → d.badges ≡ c.badges → record_words d ≡ record_words c ++ w ∷ []
      → (written (with_as (kind_of w) c w) ≡ written c ++ w ∷ []) × Good (with_as (kind_of w) c w)
  later_adds w k d is made some same e =
      let to : with_as (kind_of w) c w ≡ d = ap (λ n. with_as n c w) is ∙ made in
      let there : eqb d.badges 0 ≡ false = ap (λ n. eqb n 0) same ∙ some in
      let front = badges_word c.badges in (
        ap written to ∙ cond-false _ _ _ there ∙ ap (λ n. badges_word n ∷ record_words d) same ∙ ap (λ l. front ∷ l) e ∙ ap (λ l. l ++ w ∷ []) (sym (cond-false (eqb c.badges 0) [] (spelled c) some)),
        λ z. absurd (both_ways (eqb d.badges 0) there (ap (λ x. eqb x.badges 0) (sym to) ∙ z)),
      )

  adds_by : (w : ℕ) → Good c → Turned c (kind_of w) → sound_as (kind_of w) c w ≡ true → (written (with_as (kind_of w) c w) ≡ written c ++ w ∷ []) × Good (with_as (kind_of w) c w)
  adds_by w good (front z is) s =
      let p = sound_badges_turn w (ap (λ n. sound_as n c w) (sym is) ∙ s) in
      let some : eqb (badges_of w) 0 ≡ false = ne_eqb (badges_of w) 0 (λ (e : badges_of w ≡ 0). omega (arith, p.0)) in
      let to : with_as (kind_of w) c w ≡ with_as 7 c w = ap (λ n. with_as n c w) is in (
        ap written to ∙ cond-false _ _ _ some ∙ ap (λ n. n ∷ record_words c) (badges_word_spelled w is p.2) ∙ ap (λ l. w ∷ l) (good z) ∙ ap (λ l. l ++ w ∷ []) (sym (cond-true (eqb c.badges 0) [] (spelled c) z)),
        λ y. absurd (both_ways (eqb (badges_of w) 0) some (ap (λ x. eqb x.badges 0) (sym to) ∙ y)),
      )
  adds_by w good (schema l) s =
      let u = eqb-true (field 10 18 w) 0 (ap (λ n. sound_as n c w) (sym l.kind) ∙ s) in
      later_adds w 8 (with_as 8 c w) l.kind refl l.badges refl
      (at_end schema_word c.schemas (schema_of w) w _ (schema_word_spelled w l.kind u) (after_8 l.least))
  adds_by w good (parent l) s =
      let p = sound_parent_turn (length c.schemas) w (ap (λ n. sound_as n c w) (sym l.kind) ∙ s) in
      later_adds w 9 (with_as 9 c w) l.kind refl l.badges refl
      (under (map schema_word c.schemas) _ _ w
      (at_end parent_word c.parents (parent_of w) w _ (parent_word_spelled w l.kind p.2) (after_9 l.least)))
  adds_by w good (role l) s =
      let p = sound_role_turn (length c.schemas) w (ap (λ n. sound_as n c w) (sym l.kind) ∙ s) in
      later_adds w 10 (with_as 10 c w) l.kind refl l.badges refl
      (under (map schema_word c.schemas) _ _ w
      (under (map parent_word c.parents) _ _ w
      (at_end role_word c.roles (role_of w) w _ (role_word_spelled w l.kind p.1) (after_10 l.least))))
  adds_by w good (schema_permission l) s =
      let p = sound_schema_permission_turn (length c.schemas) w (ap (λ n. sound_as n c w) (sym l.kind) ∙ s) in
      later_adds w 11 (with_as 11 c w) l.kind refl l.badges refl
      (under (map schema_word c.schemas) _ _ w
      (under (map parent_word c.parents) _ _ w
      (under (map role_word c.roles) _ _ w
      (at_end schema_permission_word c.schema_permissions (schema_permission_of w) w _ (schema_permission_word_spelled w l.kind p.1) (after_11 l.least)))))
  adds_by w good (role_permission l) s =
      let p = sound_role_permission_turn (length c.roles) w (ap (λ n. sound_as n c w) (sym l.kind) ∙ s) in
      later_adds w 12 (with_as 12 c w) l.kind refl l.badges refl
      (under (map schema_word c.schemas) _ _ w
      (under (map parent_word c.parents) _ _ w
      (under (map role_word c.roles) _ _ w
      (under (map schema_permission_word c.schema_permissions) _ _ w
      (at_end role_permission_word c.role_permissions (role_permission_of w) w _ (role_permission_word_spelled w l.kind p.1) (after_12 l.least))))))
  adds_by w good (assignment l) s =
      let p = sound_assignment_turn (length c.roles) c.badges w (ap (λ n. sound_as n c w) (sym l.kind) ∙ s) in
      later_adds w 13 (with_as 13 c w) l.kind refl l.badges refl
      (under (map schema_word c.schemas) _ _ w
      (under (map parent_word c.parents) _ _ w
      (under (map role_word c.roles) _ _ w
      (under (map schema_permission_word c.schema_permissions) _ _ w
      (under (map role_permission_word c.role_permissions) _ _ w
      (at_last assignment_word c.assignments (assignment_of w) w (assignment_word_spelled w l.kind p.2)))))))

adds : Adds policy_rules written Good
adds c w good p = adds_by c w good (turned c w (kind_of w) p.turn) p.sound

from : (r : Content × Answer) (ws : List ℕ) (c : Content) → read_of policy_rules none ws ≡ r → given (λ x. x) r ≡ Ok c → spelled c ≡ ws
from (s, Err f) ws c e g = absurd (let z : ◌≡◌ {A = ℕ} 0 1 = cc in omega arith)
from (s, Ok u) ws c e g =
    let same : s ≡ c = cc in
    let ends = read_ends policy_rules none s u ws e in
    ap spelled (sym same) ∙ sym (cond-false (eqb s.badges 0) [] (spelled s) ends) ∙ read_spelled policy_rules written Good adds none s u ws (λ z. refl) e

-- writing the policy out again gives the list back
pub exactly : (ws : List ℕ) (c : Content) → content_from ws ≡ Ok c → spelled c ≡ ws
exactly ws c e = from (read_of policy_rules none ws) ws c refl e

exactly_given : (r : Result Content RecordFault) (ws : List ℕ) (old c : Content) (a : Answer) → content_from ws ≡ r → a ≡ answered r → c ≡ replaced old r → a ≡ Ok tt → spelled c ≡ ws
exactly_given (Ok x) ws old c a e is now ok = ap spelled now ∙ exactly ws x e
exactly_given (Err f) ws old c a e is now ok = absurd (let z : ◌≡◌ {A = ℕ} 0 1 = cc in omega arith)

-- the same of a reading that was accepted
pub exactly_after : (ws : List ℕ) (old c : Content) (a : Answer) → a ≡ answered (content_from ws) → c ≡ replaced old (content_from ws) → a ≡ Ok tt → spelled c ≡ ws
exactly_after ws old c a is now ok = exactly_given (content_from ws) ws old c a refl is now ok
