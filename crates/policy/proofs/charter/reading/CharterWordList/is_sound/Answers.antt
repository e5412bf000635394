use Rattle.std.proofs.Common.{sym, ◌∙◌}
use Rattle.wordlist.specs.Fields.{kind_of}
use Rattle.wordlist.specs.declared.kinds.Kind.TheVariants.{Schema, Parent, Role, SchemaPermission, RolePermission, Assignment}
use Rattle.policy.proofs.Numbers.{not_named, by_other}
use Rattle.policy.proofs.charter.reading.CharterWordList.is_sound.Goals as goal

pub returns-in_default-kind : goal.returns-in_default-kind
returns-in_default-kind c =
    let k = kind_of c.args.word in
    let d = c.in-Some.kind in
    let named = sym c.of.ensures ∙ c.in-Some.is in
    let not = c.in_default-kind in
    c.is_sound-in_default-kind.ensures
    ∙ sym (by_other k _ _ _ _ _ _ _ (not_named k d Schema named not.not-Schema) (not_named k d Parent named not.not-Parent) (not_named k d Role named not.not-Role)
    (not_named k d SchemaPermission named not.not-SchemaPermission) (not_named k d RolePermission named not.not-RolePermission) (not_named k d Assignment named not.not-Assignment))
