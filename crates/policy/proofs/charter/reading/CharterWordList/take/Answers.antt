use Rattle.std.proofs.Common.{◌≡◌, Some, vec_items, refl, sym, ap, ◌∙◌, arith, rules}
use Rattle.std.proofs.lemmas.Bool.{cond-true}
use Rattle.keyed.specs.Models.{pair_less, triple_less}
use Rattle.keyed.proofs.Fields.{pairs_below, triples_below}
use Rattle.records.specs.Keys.{parent_key, role_key, schema_permission_key, role_permission_key, assignment_key}
use Rattle.records.specs.Words.{schema_of, parent_of, role_of, schema_permission_of, role_permission_of, assignment_of}
use Rattle.wordlist.specs.Fields.{kind_of}
use Rattle.wordlist.specs.Reading.{takes}
use Rattle.wordlist.specs.declared.kinds.Kind.TheVariants.{Schema, Parent, Role, SchemaPermission, RolePermission, Assignment}
use Rattle.policy.specs.Contents.{content_of}
use Rattle.policy.specs.Rules.{policy_rules}
use Rattle.policy.proofs.Growing.{follows_same}
use Rattle.policy.proofs.Numbers.{number_named, not_named, unnamed}
use Rattle.policy.proofs.Order.{front_of, turned}
use Rattle.policy.proofs.Turns.{rises_of, took, turn_of}
use Rattle.policy.proofs.Standing.{still, taken}
use Rattle.policy.proofs.charter.reading.CharterWordList.take.Goals.{After-put, After-put-in-Parent, After-put-in-Role, After-put-in-SchemaPermission, After-put-in-RolePermission, After-put-in-Assignment, After-from-in_default-kind}
use Rattle.policy.proofs.charter.reading.CharterWordList.take.Goals as goal

schema_next : (c : After-put) → record (content_of c.args.self.now) { schemas = vec_items c.put.new.self.records } ≡ takes policy_rules (content_of c.args.self.now) c.args.word
schema_next c =
    let ok = sym c.passes.ensures ∙ c.if-not-passes.false in
    let is = number_named (kind_of c.args.word) Schema (sym c.of.ensures ∙ c.in-Some.is ∙ ap Some c.in-Schema.is) in
    let m = content_of c.args.self.now in
    taken m c.args.word ok 8 32 (λ zs. record m { schemas = zs }) m.schemas (vec_items c.put.new.self.records) c.from.result (schema_of c.args.word) is refl refl c.from.ensures c.put.ensures

pub invariant_of-self : goal.invariant_of-self
invariant_of-self c = let s = still c.args.self.now c.args.word _ (sym c.passes.ensures ∙ c.if-not-passes.false) (schema_next c) in search rules

pub returns-in-Schema : goal.returns-in-Schema
returns-in-Schema c = schema_next (goal.at.returns-in-Schema c).After-put

parent_next : (c : After-put-in-Parent) → record (content_of c.args.self.now) { parents = vec_items c.put-in-Parent.new.self.shelf.records } ≡ takes policy_rules (content_of c.args.self.now) c.args.word
parent_next c =
    let ok = sym c.passes.ensures ∙ c.if-not-passes.false in
    let is = number_named (kind_of c.args.word) Parent (sym c.of.ensures ∙ c.in-Some.is ∙ ap Some c.in-Parent.is) in
    let follows = follows_same _ pair_less parent_key (vec_items c.args.self.now.parents.shelf.records) c.from-in-Parent.result (parent_of c.args.word) pairs_below c.from-in-Parent.ensures ∙ rises_of (content_of c.args.self.now) c.args.word 9 is ok refl in
    let m = content_of c.args.self.now in
    taken m c.args.word ok 9 64 (λ zs. record m { parents = zs }) m.parents (vec_items c.put-in-Parent.new.self.shelf.records) c.from-in-Parent.result (parent_of c.args.word) is refl refl c.from-in-Parent.ensures (c.put-in-Parent.ensures ∙ cond-true _ _ _ follows)

pub invariant_of-self-in-Parent : goal.invariant_of-self-in-Parent
invariant_of-self-in-Parent c = let s = still c.args.self.now c.args.word _ (sym c.passes.ensures ∙ c.if-not-passes.false) (parent_next c) in search rules

pub returns-in-Parent : goal.returns-in-Parent
returns-in-Parent c = parent_next (goal.at.returns-in-Parent c).After-put-in-Parent

role_next : (c : After-put-in-Role) → record (content_of c.args.self.now) { roles = vec_items c.put-in-Role.new.self.shelf.records } ≡ takes policy_rules (content_of c.args.self.now) c.args.word
role_next c =
    let ok = sym c.passes.ensures ∙ c.if-not-passes.false in
    let is = number_named (kind_of c.args.word) Role (sym c.of.ensures ∙ c.in-Some.is ∙ ap Some c.in-Role.is) in
    let follows = follows_same _ pair_less role_key (vec_items c.args.self.now.roles.shelf.records) c.from-in-Role.result (role_of c.args.word) pairs_below c.from-in-Role.ensures ∙ rises_of (content_of c.args.self.now) c.args.word 10 is ok refl in
    let m = content_of c.args.self.now in
    taken m c.args.word ok 10 64 (λ zs. record m { roles = zs }) m.roles (vec_items c.put-in-Role.new.self.shelf.records) c.from-in-Role.result (role_of c.args.word) is refl refl c.from-in-Role.ensures (c.put-in-Role.ensures ∙ cond-true _ _ _ follows)

pub invariant_of-self-in-Role : goal.invariant_of-self-in-Role
invariant_of-self-in-Role c = let s = still c.args.self.now c.args.word _ (sym c.passes.ensures ∙ c.if-not-passes.false) (role_next c) in search rules

pub returns-in-Role : goal.returns-in-Role
returns-in-Role c = role_next (goal.at.returns-in-Role c).After-put-in-Role

schema_permission_next : (c : After-put-in-SchemaPermission) → record (content_of c.args.self.now) { schema_permissions = vec_items c.put-in-SchemaPermission.new.self.shelf.records } ≡ takes policy_rules (content_of c.args.self.now) c.args.word
schema_permission_next c =
    let ok = sym c.passes.ensures ∙ c.if-not-passes.false in
    let is = number_named (kind_of c.args.word) SchemaPermission (sym c.of.ensures ∙ c.in-Some.is ∙ ap Some c.in-SchemaPermission.is) in
    let follows = follows_same _ triple_less schema_permission_key (vec_items c.args.self.now.schema_permissions.shelf.records) c.from-in-SchemaPermission.result (schema_permission_of c.args.word) triples_below c.from-in-SchemaPermission.ensures ∙ rises_of (content_of c.args.self.now) c.args.word 11 is ok refl in
    let m = content_of c.args.self.now in
    taken m c.args.word ok 11 256 (λ zs. record m { schema_permissions = zs }) m.schema_permissions (vec_items c.put-in-SchemaPermission.new.self.shelf.records) c.from-in-SchemaPermission.result (schema_permission_of c.args.word) is refl refl c.from-in-SchemaPermission.ensures (c.put-in-SchemaPermission.ensures ∙ cond-true _ _ _ follows)

pub invariant_of-self-in-SchemaPermission : goal.invariant_of-self-in-SchemaPermission
invariant_of-self-in-SchemaPermission c = let s = still c.args.self.now c.args.word _ (sym c.passes.ensures ∙ c.if-not-passes.false) (schema_permission_next c) in search rules

pub returns-in-SchemaPermission : goal.returns-in-SchemaPermission
returns-in-SchemaPermission c = schema_permission_next (goal.at.returns-in-SchemaPermission c).After-put-in-SchemaPermission

role_permission_next : (c : After-put-in-RolePermission) → record (content_of c.args.self.now) { role_permissions = vec_items c.put-in-RolePermission.new.self.shelf.records } ≡ takes policy_rules (content_of c.args.self.now) c.args.word
role_permission_next c =
    let ok = sym c.passes.ensures ∙ c.if-not-passes.false in
    let is = number_named (kind_of c.args.word) RolePermission (sym c.of.ensures ∙ c.in-Some.is ∙ ap Some c.in-RolePermission.is) in
    let follows = follows_same _ triple_less role_permission_key (vec_items c.args.self.now.role_permissions.shelf.records) c.from-in-RolePermission.result (role_permission_of c.args.word) triples_below c.from-in-RolePermission.ensures ∙ rises_of (content_of c.args.self.now) c.args.word 12 is ok refl in
    let m = content_of c.args.self.now in
    taken m c.args.word ok 12 256 (λ zs. record m { role_permissions = zs }) m.role_permissions (vec_items c.put-in-RolePermission.new.self.shelf.records) c.from-in-RolePermission.result (role_permission_of c.args.word) is refl refl c.from-in-RolePermission.ensures (c.put-in-RolePermission.ensures ∙ cond-true _ _ _ follows)

pub invariant_of-self-in-RolePermission : goal.invariant_of-self-in-RolePermission
invariant_of-self-in-RolePermission c = let s = still c.args.self.now c.args.word _ (sym c.passes.ensures ∙ c.if-not-passes.false) (role_permission_next c) in search rules

pub returns-in-RolePermission : goal.returns-in-RolePermission
returns-in-RolePermission c = role_permission_next (goal.at.returns-in-RolePermission c).After-put-in-RolePermission

assignment_next : (c : After-put-in-Assignment) → record (content_of c.args.self.now) { assignments = vec_items c.put-in-Assignment.new.self.shelf.records } ≡ takes policy_rules (content_of c.args.self.now) c.args.word
assignment_next c =
    let ok = sym c.passes.ensures ∙ c.if-not-passes.false in
    let is = number_named (kind_of c.args.word) Assignment (sym c.of.ensures ∙ c.in-Some.is ∙ ap Some c.in-Assignment.is) in
    let follows = follows_same _ pair_less assignment_key (vec_items c.args.self.now.assignments.shelf.records) c.from-in-Assignment.result (assignment_of c.args.word) pairs_below c.from-in-Assignment.ensures ∙ rises_of (content_of c.args.self.now) c.args.word 13 is ok refl in
    let m = content_of c.args.self.now in
    taken m c.args.word ok 13 512 (λ zs. record m { assignments = zs }) m.assignments (vec_items c.put-in-Assignment.new.self.shelf.records) c.from-in-Assignment.result (assignment_of c.args.word) is refl refl c.from-in-Assignment.ensures (c.put-in-Assignment.ensures ∙ cond-true _ _ _ follows)

pub invariant_of-self-in-Assignment : goal.invariant_of-self-in-Assignment
invariant_of-self-in-Assignment c = let s = still c.args.self.now c.args.word _ (sym c.passes.ensures ∙ c.if-not-passes.false) (assignment_next c) in search rules

pub returns-in-Assignment : goal.returns-in-Assignment
returns-in-Assignment c = assignment_next (goal.at.returns-in-Assignment c).After-put-in-Assignment

badges_next : (c : After-from-in_default-kind) → record (content_of c.args.self.now) { badges = c.from-in_default-kind.result.count } ≡ takes policy_rules (content_of c.args.self.now) c.args.word
badges_next c =
    let m = content_of c.args.self.now in
    let w = c.args.word in
    let k = kind_of w in
    let d = c.in-Some.kind in
    let ok = sym c.passes.ensures ∙ c.if-not-passes.false in
    let named = sym c.of.ensures ∙ c.in-Some.is in
    let not = c.in_default-kind in
    let first = front_of m w (turn_of m w k refl ok) (not_named k d Schema named not.not-Schema) (not_named k d Parent named not.not-Parent) (not_named k d Role named not.not-Role)
    (not_named k d SchemaPermission named not.not-SchemaPermission) (not_named k d RolePermission named not.not-RolePermission) (not_named k d Assignment named not.not-Assignment) in
    took m w 7 first.1 ok _ (ap (λ b. record m { badges = b.count }) c.from-in_default-kind.ensures)

pub invariant_of-self-in_default-kind : goal.invariant_of-self-in_default-kind
invariant_of-self-in_default-kind c = let s = still c.args.self.now c.args.word _ (sym c.passes.ensures ∙ c.if-not-passes.false) (badges_next c) in search rules

pub returns-in_default-kind : goal.returns-in_default-kind
returns-in_default-kind c = badges_next (goal.at.returns-in_default-kind c).After-from-in_default-kind

pub returns-in_default : goal.returns-in_default
returns-in_default c =
    let m = content_of c.args.self.now in
    let k = kind_of c.args.word in
    let ok = sym c.passes.ensures ∙ c.if-not-passes.false in
    absurd (unnamed m k (turned m c.args.word k (turn_of m c.args.word k refl ok)) (sym c.of.ensures ∙ c.in_default.is))
