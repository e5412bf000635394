-- When the fields of a record's word are good: references are to what was read, and no unnamed bit is set.
use Rattle.std.specs.Prelude.{Bool, ◌&&◌, ℕ, eqb, leb, ltb}
use Rattle.wordlist.specs.Fields.{field}
use Rattle.records.specs.Words.{badges_of, parent_of, role_of, schema_permission_of, role_permission_of, assignment_of}

-- 1 to 128 badges
abbrev pub sound_badges : ℕ → Bool
sound_badges w = leb 1 (badges_of w) && (leb (badges_of w) 128 && eqb (field 8 20 w) 0)

-- any schema is good
abbrev pub sound_schema : ℕ → Bool
sound_schema w = eqb (field 10 18 w) 0

-- a parent is below its child, which was read
abbrev pub sound_parent : ℕ → ℕ → Bool
sound_parent schemas w = ltb (parent_of w).parent (parent_of w).child && (ltb (parent_of w).child schemas && eqb (field 10 18 w) 0)

-- the schema of a role was read; its place is not looked at
abbrev pub sound_role : ℕ → ℕ → Bool
sound_role schemas w = ltb (role_of w).schema schemas && eqb (field 11 17 w) 0

-- the schema of a permission was read
abbrev pub sound_schema_permission : ℕ → ℕ → Bool
sound_schema_permission schemas w = ltb (schema_permission_of w).schema schemas && eqb (field 17 11 w) 0

-- the role of a permission was read
abbrev pub sound_role_permission : ℕ → ℕ → Bool
sound_role_permission roles w = ltb (role_permission_of w).role roles && eqb (field 18 10 w) 0

-- the role of an assignment was read, and there is such a badge
abbrev pub sound_assignment : ℕ → ℕ → ℕ → Bool
sound_assignment roles badges w = ltb (assignment_of w).role roles && (ltb (assignment_of w).badge badges && eqb (field 13 15 w) 0)
