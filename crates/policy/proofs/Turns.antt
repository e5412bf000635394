-- What a word that breaks no rule tells, by its kind.
use Rattle.std.proofs.Common.{◌≡◌, ℕ, ◌<◌, ◌≤◌, Bool, true, false, cond, ◌&&◌, eqb, leb, sym, ap, ◌∙◌, arith}
use Rattle.std.proofs.lemmas.Bool.{and_parts, both_ways, cond-true}
use Rattle.std.proofs.lemmas.Bool.Decides.{nat_tests}
use Rattle.wordlist.specs.Fields.{field, kind_of}
use Rattle.wordlist.specs.Reading.{passing, takes}
use Rattle.records.specs.Words.{badges_of, parent_of, role_of, schema_permission_of, role_permission_of, assignment_of}
use Rattle.records.specs.Sound.{sound_badges, sound_parent, sound_role, sound_schema_permission, sound_role_permission, sound_assignment}
use Rattle.policy.specs.Contents.{Content}
use Rattle.policy.specs.Rules.{policy_rules, turn_as, rises_as, room_as, sound_as, with_as, least_kind}

-- fields that are good
pub sound_badges_turn : (w : ℕ) → sound_badges w ≡ true → (1 ≤ badges_of w) × (badges_of w ≤ 128) × (field 8 20 w ≡ 0)
sound_badges_turn w e = (grind (arith, nat_tests), grind (arith, nat_tests), grind (arith, nat_tests))

pub sound_parent_turn : (n w : ℕ) → sound_parent n w ≡ true → ((parent_of w).parent < (parent_of w).child) × ((parent_of w).child < n) × (field 10 18 w ≡ 0)
sound_parent_turn n w e = (grind (arith, nat_tests), grind (arith, nat_tests), grind (arith, nat_tests))

pub sound_role_turn : (n w : ℕ) → sound_role n w ≡ true → ((role_of w).schema < n) × (field 11 17 w ≡ 0)
sound_role_turn n w e = (grind (arith, nat_tests), grind (arith, nat_tests))

pub sound_schema_permission_turn : (n w : ℕ) → sound_schema_permission n w ≡ true → ((schema_permission_of w).schema < n) × (field 17 11 w ≡ 0)
sound_schema_permission_turn n w e = (grind (arith, nat_tests), grind (arith, nat_tests))

pub sound_role_permission_turn : (n w : ℕ) → sound_role_permission n w ≡ true → ((role_permission_of w).role < n) × (field 18 10 w ≡ 0)
sound_role_permission_turn n w e = (grind (arith, nat_tests), grind (arith, nat_tests))

pub sound_assignment_turn : (n b w : ℕ) → sound_assignment n b w ≡ true → ((assignment_of w).role < n) × ((assignment_of w).badge < b) × (field 13 15 w ≡ 0)
sound_assignment_turn n b w e = (grind (arith, nat_tests), grind (arith, nat_tests), grind (arith, nat_tests))

by_front : (front first a b : Bool) → first ≡ false → cond front first (a && b) ≡ true → b ≡ true
by_front true first a b other e = absurd (both_ways first other e)
by_front false first a b other e = (and_parts a b e).1

module _ (c : Content) (w k : ℕ) (is : kind_of w ≡ k) (ok : passing policy_rules c w ≡ true) where
  pub turn_of : turn_as k c w ≡ true
  turn_of = ap (λ n. turn_as n c w) (sym is) ∙ (and_parts (turn_as (kind_of w) c w) (room_as (kind_of w) c && sound_as (kind_of w) c w) ok).0

  rest_of : (room_as (kind_of w) c && sound_as (kind_of w) c w) ≡ true
  rest_of = (and_parts (turn_as (kind_of w) c w) (room_as (kind_of w) c && sound_as (kind_of w) c w) ok).1

  pub room_of : room_as k c ≡ true
  room_of = ap (λ n. room_as n c) (sym is) ∙ (and_parts (room_as (kind_of w) c) (sound_as (kind_of w) c w) rest_of).0

  pub sound_of : sound_as k c w ≡ true
  sound_of = ap (λ n. sound_as n c w) (sym is) ∙ (and_parts (room_as (kind_of w) c) (sound_as (kind_of w) c w) rest_of).1

  -- a record's key is above the last one of its kind
  pub rises_of : eqb k 7 ≡ false → rises_as k c w ≡ true
  rises_of other = by_front (eqb c.badges 0) (eqb k 7) (leb (least_kind c) k) (rises_as k c w) other turn_of

  pub took : (s : Content) → s ≡ with_as k c w → s ≡ takes policy_rules c w
  took s e = e ∙ ap (λ n. with_as n c w) (sym is) ∙ sym (cond-true _ _ _ ok)
