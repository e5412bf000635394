-- What reading has shown of a policy's records, and of what is read with one more word.
use Rattle.std.proofs.Common.{◌≡◌, ℕ, ◌<◌, ◌≤◌, true, [], ◌∷◌, ◌++◌, List, length, ltb, refl, sym, ap, ◌∙◌, subst, arith, rules}
use Rattle.std.proofs.lemmas.List.Elements.{All-push}
use Rattle.std.proofs.lemmas.Bool.{cond-true, eqb-true}
use Rattle.wordlist.specs.Fields.{kind_of}
use Rattle.wordlist.specs.Reading.{passing, takes}
use Rattle.keyed.specs.Orders.{placed, rising}
use Rattle.keyed.specs.Models.{pair_less}
use Rattle.keyed.proofs.Fields.{pairs_below}
use Rattle.records.specs.Keys.{parent_key}
use Rattle.records.specs.Words.{badges_of, schema_of, parent_of, role_of, schema_permission_of, role_permission_of, assignment_of}
use Rattle.policy.specs.declared.charter.Charter.{Charter}
use Rattle.policy.specs.Contents.{Content, content_of}
use Rattle.policy.specs.Facts.{Upward, ChildrenIn, SchemasIn, OwnersIn, HoldersIn, RolesIn, BadgesIn}
use Rattle.policy.specs.Rules.{policy_rules, room_as, sound_as, with_as}
use Rattle.policy.proofs.Growing.{pushed, longer, below_more}
use Rattle.policy.proofs.Order.{Turned, front, schema, parent, role, schema_permission, role_permission, assignment, turned}
use Rattle.policy.proofs.Turns.{turn_of, room_of, sound_of, took, sound_badges_turn, sound_parent_turn, sound_role_turn, sound_schema_permission_turn, sound_role_permission_turn, sound_assignment_turn}

pub record Standing (c : Content) : Type 0 where
  pub badges_few : c.badges ≤ 128
  pub upward : Upward c.parents
  pub children : ChildrenIn (length c.schemas) c.parents
  pub role_schemas : SchemasIn (length c.schemas) c.roles
  pub owners : OwnersIn (length c.schemas) c.schema_permissions
  pub holders : HoldersIn (length c.roles) c.role_permissions
  pub assigned_roles : RolesIn (length c.roles) c.assignments
  pub assigned_badges : BadgesIn c.badges c.assignments

stands : (c : Charter) → Standing (content_of c)
stands c = record { badges_few = c.badges_few; upward = c.upward; children = c.children; role_schemas = c.role_schemas; owners = c.owners; holders = c.holders; assigned_roles = c.assigned_roles; assigned_badges = c.assigned_badges }

module _ (c : Content) (w : ℕ) where
  with_word : (k : ℕ) → Turned c k → sound_as k c w ≡ true → Standing c → Standing (with_as k c w)
  with_word k (front z is) s h =
      let good = sound_badges_turn w (ap (λ n. sound_as n c w) (sym is) ∙ s) in
      let none : c.badges ≡ 0 = eqb-true c.badges 0 z in
      let badges_few = good.1 in
      let assigned_badges = below_more (λ a. a.badge) c.badges (badges_of w) c.assignments (omega arith) h.assigned_badges in
      subst (λ n. Standing (with_as n c w)) (sym is) (search rules)
  with_word k (schema l) s h =
      let more = longer c.schemas (schema_of w) in
      let children = below_more (λ p. p.child) _ _ c.parents more h.children in
      let role_schemas = below_more (λ r. r.schema) _ _ c.roles more h.role_schemas in
      let owners = below_more (λ p. p.schema) _ _ c.schema_permissions more h.owners in
      subst (λ n. Standing (with_as n c w)) (sym l.kind) (search rules)
  with_word k (parent l) s h =
      let good = sound_parent_turn (length c.schemas) w (ap (λ n. sound_as n c w) (sym l.kind) ∙ s) in
      let upward = All-push (λ p. p.parent < p.child) c.parents (parent_of w) h.upward good.0 in
      let children = All-push (λ p. p.child < length c.schemas) c.parents (parent_of w) h.children good.1 in
      subst (λ n. Standing (with_as n c w)) (sym l.kind) (search rules)
  with_word k (role l) s h =
      let good = sound_role_turn (length c.schemas) w (ap (λ n. sound_as n c w) (sym l.kind) ∙ s) in
      let more = longer c.roles (role_of w) in
      let role_schemas = All-push (λ r. r.schema < length c.schemas) c.roles (role_of w) h.role_schemas good.0 in
      let holders = below_more (λ p. p.role) _ _ c.role_permissions more h.holders in
      let assigned_roles = below_more (λ a. a.role) _ _ c.assignments more h.assigned_roles in
      subst (λ n. Standing (with_as n c w)) (sym l.kind) (search rules)
  with_word k (schema_permission l) s h =
      let good = sound_schema_permission_turn (length c.schemas) w (ap (λ n. sound_as n c w) (sym l.kind) ∙ s) in
      let owners = All-push (λ p. p.schema < length c.schemas) c.schema_permissions (schema_permission_of w) h.owners good.0 in
      subst (λ n. Standing (with_as n c w)) (sym l.kind) (search rules)
  with_word k (role_permission l) s h =
      let good = sound_role_permission_turn (length c.roles) w (ap (λ n. sound_as n c w) (sym l.kind) ∙ s) in
      let holders = All-push (λ p. p.role < length c.roles) c.role_permissions (role_permission_of w) h.holders good.0 in
      subst (λ n. Standing (with_as n c w)) (sym l.kind) (search rules)
  with_word k (assignment l) s h =
      let good = sound_assignment_turn (length c.roles) c.badges w (ap (λ n. sound_as n c w) (sym l.kind) ∙ s) in
      let assigned_roles = All-push (λ a. a.role < length c.roles) c.assignments (assignment_of w) h.assigned_roles good.0 in
      let assigned_badges = All-push (λ a. a.badge < c.badges) c.assignments (assignment_of w) h.assigned_badges good.1 in
      subst (λ n. Standing (with_as n c w)) (sym l.kind) (search rules)

  module _ (ok : passing policy_rules c w ≡ true) where
    -- what was read still stands with a word that breaks no rule
    standing_with : Standing c → Standing (takes policy_rules c w)
    standing_with h =
        subst Standing (sym (cond-true _ _ _ ok))
        (with_word (kind_of w) (turned c w (kind_of w) (turn_of c w (kind_of w) refl ok)) (sound_of c w (kind_of w) refl ok) h)

    -- a record that was put after the others of its kind
    pub taken : {R : Type 0} (k most : ℕ) (put : List R → Content) (xs ys : List R) (x y : R) → kind_of w ≡ k → room_as k c ≡ ltb (length xs) most → put (xs ++ y ∷ []) ≡ with_as k c w → x ≡ y → ys ≡ placed most xs x → put ys ≡ takes policy_rules c w
    taken k most put xs ys x y is fits to same e = took c w k is ok _ (ap put (pushed most xs ys x y same e (sym fits ∙ room_of c w k is ok)) ∙ to)

pub still : (c : Charter) (w : ℕ) (d : Content) → passing policy_rules (content_of c) w ≡ true → d ≡ takes policy_rules (content_of c) w → Standing d
still c w d ok e = subst Standing (sym e) (standing_with (content_of c) w ok (stands c))

-- the keys of the parents rise, as the definitions have their order
pub parents_rise : (c : Charter) → rising pair_less parent_key (content_of c).parents ≡ true
parents_rise c = ap (λ less. rising less parent_key (content_of c).parents) (sym pairs_below) ∙ c.parents.rise
