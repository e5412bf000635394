use Rattle.std.proofs.Common.{Some, vec_items, sym, ap, ◌∙◌}
use Rattle.keyed.specs.Models.{pair_less, triple_less}
use Rattle.keyed.proofs.Fields.{pairs_below, triples_below}
use Rattle.records.specs.Keys.{parent_key, role_key, schema_permission_key, role_permission_key, assignment_key}
use Rattle.records.specs.Words.{parent_of, role_of, schema_permission_of, role_permission_of, assignment_of}
use Rattle.wordlist.specs.Fields.{kind_of}
use Rattle.wordlist.specs.declared.kinds.Kind.TheVariants.{Parent, Role, SchemaPermission, RolePermission, Assignment}
use Rattle.policy.specs.Contents.{content_of}
use Rattle.policy.specs.Rules.{rises_as}
use Rattle.policy.proofs.Growing.{follows_same}
use Rattle.policy.proofs.Numbers.{number_named}
use Rattle.policy.proofs.charter.Charter.rises.Goals as goal

pub returns-in-Some-Parent : goal.returns-in-Some-Parent
returns-in-Some-Parent c =
    c.rises.ensures ∙ follows_same _ pair_less parent_key (vec_items c.args.self.now.parents.shelf.records) c.from.result (parent_of c.args.word) pairs_below c.from.ensures
    ∙ ap (λ n. rises_as n (content_of c.args.self.now) c.args.word) (sym (number_named (kind_of c.args.word) Parent (sym c.of.ensures ∙ c.in-Some-Parent.is ∙ ap Some c.in-Some-Parent.field-0-is)))

pub returns-in-Some-Role : goal.returns-in-Some-Role
returns-in-Some-Role c =
    c.rises-in-Some-Role.ensures ∙ follows_same _ pair_less role_key (vec_items c.args.self.now.roles.shelf.records) c.from-in-Some-Role.result (role_of c.args.word) pairs_below c.from-in-Some-Role.ensures
    ∙ ap (λ n. rises_as n (content_of c.args.self.now) c.args.word) (sym (number_named (kind_of c.args.word) Role (sym c.of.ensures ∙ c.in-Some-Role.is ∙ ap Some c.in-Some-Role.field-0-is)))

pub returns-in-Some-SchemaPermission : goal.returns-in-Some-SchemaPermission
returns-in-Some-SchemaPermission c =
    c.rises-in-Some-SchemaPermission.ensures ∙ follows_same _ triple_less schema_permission_key (vec_items c.args.self.now.schema_permissions.shelf.records) c.from-in-Some-SchemaPermission.result (schema_permission_of c.args.word) triples_below c.from-in-Some-SchemaPermission.ensures
    ∙ ap (λ n. rises_as n (content_of c.args.self.now) c.args.word) (sym (number_named (kind_of c.args.word) SchemaPermission (sym c.of.ensures ∙ c.in-Some-SchemaPermission.is ∙ ap Some c.in-Some-SchemaPermission.field-0-is)))

pub returns-in-Some-RolePermission : goal.returns-in-Some-RolePermission
returns-in-Some-RolePermission c =
    c.rises-in-Some-RolePermission.ensures ∙ follows_same _ triple_less role_permission_key (vec_items c.args.self.now.role_permissions.shelf.records) c.from-in-Some-RolePermission.result (role_permission_of c.args.word) triples_below c.from-in-Some-RolePermission.ensures
    ∙ ap (λ n. rises_as n (content_of c.args.self.now) c.args.word) (sym (number_named (kind_of c.args.word) RolePermission (sym c.of.ensures ∙ c.in-Some-RolePermission.is ∙ ap Some c.in-Some-RolePermission.field-0-is)))

pub returns-in-Some-Assignment : goal.returns-in-Some-Assignment
returns-in-Some-Assignment c =
    c.rises-in-Some-Assignment.ensures ∙ follows_same _ pair_less assignment_key (vec_items c.args.self.now.assignments.shelf.records) c.from-in-Some-Assignment.result (assignment_of c.args.word) pairs_below c.from-in-Some-Assignment.ensures
    ∙ ap (λ n. rises_as n (content_of c.args.self.now) c.args.word) (sym (number_named (kind_of c.args.word) Assignment (sym c.of.ensures ∙ c.in-Some-Assignment.is ∙ ap Some c.in-Some-Assignment.field-0-is)))
