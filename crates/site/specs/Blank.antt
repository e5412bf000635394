-- How many records a policy has.
use Rattle.std.specs.Prelude.{ℕ, ◌+◌, length}
use Rattle.policy.specs.Contents.{Content}

-- the records of all kinds
abbrev pub record_count : Content → ℕ
record_count c = length c.schemas + (length c.parents + (length c.roles + (length c.schema_permissions + (length c.role_permissions + length c.assignments))))
