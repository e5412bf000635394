-- How many records a policy has at the most.
use Rattle.std.proofs.Common.{ℕ, ◌<◌, ◌≤◌, length, arith}
use Rattle.policy.specs.declared.policy.Policy.{Policy}
use Rattle.policy.specs.Contents.{parent_at, role_at}
use Rattle.policy.specs.Policies.{says}

pub schemas_few : (p : Policy) → length (says p).schemas ≤ 32
schemas_few p = omega (arith, p.kept.schemas.few, p.kept.schemas.records.ok.0)

pub roles_few : (p : Policy) → length (says p).roles ≤ 64
roles_few p = omega (arith, p.kept.roles.shelf.few, p.kept.roles.shelf.records.ok.0)

-- a child is one of 32
pub child_in : (p : Policy) (k : ℕ) → k < length (says p).parents → (parent_at (says p) k).child < 32
child_in p k l = omega (arith, schemas_few p, p.kept.children k (record { parent = 0; child = 0 }) l)

-- the schema of a role is one of 32
pub schema_in : (p : Policy) (r : ℕ) → r < length (says p).roles → (role_at (says p) r).schema < 32
schema_in p r l = omega (arith, schemas_few p, p.kept.role_schemas r (record { extent = 0; schema = 0 }) l)
