-- What a policy list says of a word after the words before it.
use Rattle.std.specs.Prelude.{ℕ, Bool, true, false, cond, ◌&&◌, List, [], ◌∷◌, ◌++◌, length, ◌==◌, nat_le, nat_lt}
use Rattle.wordlist.specs.Fields.{kind_of}
use Rattle.wordlist.specs.Reading.{Rules}
use Rattle.keyed.specs.Orders.{follows}
use Rattle.keyed.specs.Models.{pair_less, triple_less}
use Rattle.records.specs.Words.{badges_of, schema_of, parent_of, role_of, schema_permission_of, role_permission_of, assignment_of}
use Rattle.records.specs.Sound.{sound_badges, sound_schema, sound_parent, sound_role, sound_schema_permission, sound_role_permission, sound_assignment}
use Rattle.records.specs.Keys.{parent_key, role_key, schema_permission_key, role_permission_key, assignment_key}
use Rattle.policy.specs.Contents.{Content}

-- one of these for the kinds 8 to 13, and the last for any other kind
abbrev pub by_kind : {A : Type 0} → ℕ → A → A → A → A → A → A → A → A
by_kind k schema parent role schema_permission role_permission assignment other =
    cond (k == 8) schema
    (cond (k == 9) parent
    (cond (k == 10) role
    (cond (k == 11) schema_permission
    (cond (k == 12) role_permission
    (cond (k == 13) assignment other)))))

-- whether a list has a record
abbrev pub some : {R : Type 0} → List R → Bool
some xs = nat_lt 0 (length xs)

-- kinds never fall: the least kind that may stand next, after the badges
abbrev pub least_kind : Content → ℕ
least_kind c =
    cond (some c.assignments) 13
    (cond (some c.role_permissions) 12
    (cond (some c.schema_permissions) 11
    (cond (some c.roles) 10
    (cond (some c.parents) 9 8))))

-- a word of kind k is a record whose key is above the last one of its kind; a schema has no key
abbrev pub rises_as : ℕ → Content → ℕ → Bool
rises_as k c w =
    by_kind k
    true
    (follows pair_less parent_key c.parents (parent_key (parent_of w)))
    (follows pair_less role_key c.roles (role_key (role_of w)))
    (follows triple_less schema_permission_key c.schema_permissions (schema_permission_key (schema_permission_of w)))
    (follows triple_less role_permission_key c.role_permissions (role_permission_key (role_permission_of w)))
    (follows pair_less assignment_key c.assignments (assignment_key (assignment_of w)))
    false

-- the badges stand once, in front; then the kinds never fall, and the keys of a kind rise
abbrev pub turn_as : ℕ → Content → ℕ → Bool
turn_as k c w = cond (c.badges == 0) (k == 7) (nat_le (least_kind c) k && rises_as k c w)

-- at most 32 schemas, 64 parents, 64 roles, 256 permissions of either kind and 512 assignments
abbrev pub room_as : ℕ → Content → Bool
room_as k c =
    by_kind k
    (nat_lt (length c.schemas) 32)
    (nat_lt (length c.parents) 64)
    (nat_lt (length c.roles) 64)
    (nat_lt (length c.schema_permissions) 256)
    (nat_lt (length c.role_permissions) 256)
    (nat_lt (length c.assignments) 512)
    true

-- the fields of a word of kind k are good
abbrev pub sound_as : ℕ → Content → ℕ → Bool
sound_as k c w =
    by_kind k
    (sound_schema w)
    (sound_parent (length c.schemas) w)
    (sound_role (length c.schemas) w)
    (sound_schema_permission (length c.schemas) w)
    (sound_role_permission (length c.roles) w)
    (sound_assignment (length c.roles) c.badges w)
    (sound_badges w)

-- the records of one kind, with the record of a word of that kind
abbrev pub grown : {R : Type 0} → Bool → List R → R → List R
grown same xs x = cond same (xs ++ x ∷ []) xs

-- what was read, with a word of kind k
abbrev pub with_as : ℕ → Content → ℕ → Content
with_as k c w = record {
  badges = cond (k == 7) (badges_of w) c.badges;
  schemas = grown (k == 8) c.schemas (schema_of w);
  parents = grown (k == 9) c.parents (parent_of w);
  roles = grown (k == 10) c.roles (role_of w);
  schema_permissions = grown (k == 11) c.schema_permissions (schema_permission_of w);
  role_permissions = grown (k == 12) c.role_permissions (role_permission_of w);
  assignments = grown (k == 13) c.assignments (assignment_of w);
}

-- kinds 7 to 13; a list that ends without badges is too short
abbrev pub policy_rules : Rules Content
policy_rules = record {
  member = λ k. nat_le 7 k && nat_le k 13;
  turn = λ c w. turn_as (kind_of w) c w;
  room = λ c w. room_as (kind_of w) c;
  sound = λ c w. sound_as (kind_of w) c w;
  taken = λ c w. with_as (kind_of w) c w;
  owes = λ c. (c.badges == 0);
}
