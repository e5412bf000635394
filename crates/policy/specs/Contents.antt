-- What a policy says, as plain lists.
use Rattle.std.specs.Prelude.{ℕ, Bool, List, [], length, vec_items, slice_index_or}
use Rattle.keyed.specs.Orders.{has}
use Rattle.keyed.specs.Models.{pair_less, triple_less}
use Rattle.records.specs.declared.kinds.Schema.{Schema}
use Rattle.records.specs.declared.kinds.Parent.{Parent}
use Rattle.records.specs.declared.kinds.Role.{Role}
use Rattle.records.specs.declared.kinds.SchemaPermission.{SchemaPermission}
use Rattle.records.specs.declared.kinds.RolePermission.{RolePermission}
use Rattle.records.specs.declared.kinds.Assignment.{Assignment}
use Rattle.records.specs.declared.words.Counts.{Counts}
use Rattle.records.specs.Keys.{schema_permission_key, role_permission_key, assignment_key}
use Rattle.policy.specs.declared.charter.Charter.{Charter}

pub record Content : Type 0 where
  pub badges : ℕ
  pub schemas : List Schema
  pub parents : List Parent
  pub roles : List Role
  pub schema_permissions : List SchemaPermission
  pub role_permissions : List RolePermission
  pub assignments : List Assignment

-- no badges and no records
abbrev pub none : Content
none = record { badges = 0; schemas = []; parents = []; roles = []; schema_permissions = []; role_permissions = []; assignments = [] }

-- what the program holds
abbrev pub content_of : Charter → Content
content_of c = record {
  badges = c.badges;
  schemas = vec_items c.schemas.records;
  parents = vec_items c.parents.shelf.records;
  roles = vec_items c.roles.shelf.records;
  schema_permissions = vec_items c.schema_permissions.shelf.records;
  role_permissions = vec_items c.role_permissions.shelf.records;
  assignments = vec_items c.assignments.shelf.records;
}

-- how much it has of what records refer to
abbrev pub counts_of : Content → Counts
counts_of c = record { badges = c.badges; schemas = length c.schemas; roles = length c.roles }

-- schema k, zeros if there is none
abbrev pub schema_at : Content → ℕ → Schema
schema_at c k = slice_index_or c.schemas k (record { extent = 0; logic = 0; patience = 0 })

-- parent record k, zeros if there is none
abbrev pub parent_at : Content → ℕ → Parent
parent_at c k = slice_index_or c.parents k (record { parent = 0; child = 0 })

-- role k, zeros if there is none
abbrev pub role_at : Content → ℕ → Role
role_at c k = slice_index_or c.roles k (record { extent = 0; schema = 0 })

-- some schema permission has these fields
abbrev pub schema_permits : Content → ℕ → ℕ → ℕ → Bool
schema_permits c schema operation object = has triple_less schema_permission_key (record { high = schema; mid = operation; low = object }) c.schema_permissions

-- some role permission has these fields
abbrev pub role_permits : Content → ℕ → ℕ → ℕ → Bool
role_permits c role operation object = has triple_less role_permission_key (record { high = role; mid = operation; low = object }) c.role_permissions

-- some assignment has these fields
abbrev pub is_assigned : Content → ℕ → ℕ → Bool
is_assigned c badge role = has pair_less assignment_key (record { high = badge; low = role }) c.assignments
