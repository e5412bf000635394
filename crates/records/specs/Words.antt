-- What the word of each kind of record says, and the word of each record.
use Rattle.std.specs.Prelude.{ℕ, ◌+◌, ◌*◌, ◌^◌}
use Rattle.wordlist.specs.Fields.{field}
use Rattle.records.specs.declared.kinds.Schema.{Schema}
use Rattle.records.specs.declared.kinds.Parent.{Parent}
use Rattle.records.specs.declared.kinds.Role.{Role}
use Rattle.records.specs.declared.kinds.SchemaPermission.{SchemaPermission}
use Rattle.records.specs.declared.kinds.RolePermission.{RolePermission}
use Rattle.records.specs.declared.kinds.Assignment.{Assignment}

-- 7 badges: how many in bits 0 to 7
abbrev pub badges_of : ℕ → ℕ
badges_of w = field 0 8 w

-- 8 schema: extent type in bits 0 to 3, logic type 4 to 7, patience 8 to 9
abbrev pub schema_of : ℕ → Schema
schema_of w = record { extent = field 0 4 w; logic = field 4 4 w; patience = field 8 2 w }

-- 9 parent: parent schema in bits 0 to 4, child schema 5 to 9
abbrev pub parent_of : ℕ → Parent
parent_of w = record { parent = field 0 5 w; child = field 5 5 w }

-- 10 role: extent place in bits 0 to 5, schema 6 to 10
abbrev pub role_of : ℕ → Role
role_of w = record { extent = field 0 6 w; schema = field 6 5 w }

-- 11 schema permission: object in bits 0 to 7, operation 8 to 11, schema 12 to 16
abbrev pub schema_permission_of : ℕ → SchemaPermission
schema_permission_of w = record { object = field 0 8 w; operation = field 8 4 w; schema = field 12 5 w }

-- 12 role permission: object in bits 0 to 7, operation 8 to 11, role 12 to 17
abbrev pub role_permission_of : ℕ → RolePermission
role_permission_of w = record { object = field 0 8 w; operation = field 8 4 w; role = field 12 6 w }

-- 13 assignment: role in bits 0 to 5, badge 6 to 12
abbrev pub assignment_of : ℕ → Assignment
assignment_of w = record { role = field 0 6 w; badge = field 6 7 w }

-- the word of a number of badges
abbrev pub badges_word : ℕ → ℕ
badges_word n = 7 * 2 ^ 28 + n

-- the word of a schema
abbrev pub schema_word : Schema → ℕ
schema_word s = 8 * 2 ^ 28 + s.patience * 2 ^ 8 + s.logic * 2 ^ 4 + s.extent

-- the word of a parent
abbrev pub parent_word : Parent → ℕ
parent_word p = 9 * 2 ^ 28 + p.child * 2 ^ 5 + p.parent

-- the word of a role
abbrev pub role_word : Role → ℕ
role_word r = 10 * 2 ^ 28 + r.schema * 2 ^ 6 + r.extent

-- the word of a schema permission
abbrev pub schema_permission_word : SchemaPermission → ℕ
schema_permission_word p = 11 * 2 ^ 28 + p.schema * 2 ^ 12 + p.operation * 2 ^ 8 + p.object

-- the word of a role permission
abbrev pub role_permission_word : RolePermission → ℕ
role_permission_word p = 12 * 2 ^ 28 + p.role * 2 ^ 12 + p.operation * 2 ^ 8 + p.object

-- the word of an assignment
abbrev pub assignment_word : Assignment → ℕ
assignment_word a = 13 * 2 ^ 28 + a.badge * 2 ^ 6 + a.role
