-- The keys of the records: the named fields, the one in the highest bits first.
use Rattle.keyed.specs.declared.pair.Pair.{Pair}
use Rattle.keyed.specs.declared.triple.Triple.{Triple}
use Rattle.records.specs.declared.kinds.Parent.{Parent}
use Rattle.records.specs.declared.kinds.Role.{Role}
use Rattle.records.specs.declared.kinds.SchemaPermission.{SchemaPermission}
use Rattle.records.specs.declared.kinds.RolePermission.{RolePermission}
use Rattle.records.specs.declared.kinds.Assignment.{Assignment}

-- a parent: child, parent
abbrev pub parent_key : Parent → Pair
parent_key p = record { high = p.child; low = p.parent }

-- a role: schema, extent place
abbrev pub role_key : Role → Pair
role_key r = record { high = r.schema; low = r.extent }

-- a schema permission: schema, operation, object
abbrev pub schema_permission_key : SchemaPermission → Triple
schema_permission_key p = record { high = p.schema; mid = p.operation; low = p.object }

-- a role permission: role, operation, object
abbrev pub role_permission_key : RolePermission → Triple
role_permission_key p = record { high = p.role; mid = p.operation; low = p.object }

-- an assignment: badge, role
abbrev pub assignment_key : Assignment → Pair
assignment_key a = record { high = a.badge; low = a.role }
