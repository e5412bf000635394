-- What reading has shown of the records of a policy.
use Rattle.std.specs.Prelude.{ℕ, ◌<◌, List, length, get_or, slice_index_or}
use Rattle.records.specs.declared.kinds.Parent.{Parent}
use Rattle.records.specs.declared.kinds.Role.{Role}
use Rattle.records.specs.declared.kinds.SchemaPermission.{SchemaPermission}
use Rattle.records.specs.declared.kinds.RolePermission.{RolePermission}
use Rattle.records.specs.declared.kinds.Assignment.{Assignment}

-- a number of each record is below n
abbrev pub Below : {R : Type 0} → (R → ℕ) → ℕ → List R → Type 0
Below {R} f n xs = (k : ℕ) (d : R) → k < length xs → f (slice_index_or xs k d) < n

-- each parent is below its child
abbrev pub Upward : List Parent → Type 0
Upward ps = (k : ℕ) (d : Parent) → k < length ps → (get_or ps k d).parent < (get_or ps k d).child

-- each child is one of n schemas
abbrev pub ChildrenIn : ℕ → List Parent → Type 0
ChildrenIn n ps = Below (λ p. p.child) n ps

-- the schema of each role is one of n schemas
abbrev pub SchemasIn : ℕ → List Role → Type 0
SchemasIn n rs = Below (λ r. r.schema) n rs

-- the schema of each schema permission is one of n schemas
abbrev pub OwnersIn : ℕ → List SchemaPermission → Type 0
OwnersIn n ps = Below (λ p. p.schema) n ps

-- the role of each role permission is one of n roles
abbrev pub HoldersIn : ℕ → List RolePermission → Type 0
HoldersIn n ps = Below (λ p. p.role) n ps

-- the role of each assignment is one of n roles
abbrev pub RolesIn : ℕ → List Assignment → Type 0
RolesIn n xs = Below (λ a. a.role) n xs

-- the badge of each assignment is one of n badges
abbrev pub BadgesIn : ℕ → List Assignment → Type 0
BadgesIn n xs = Below (λ a. a.badge) n xs
