-- The first fault of a policy over a plan: check after check, each from the lowest number up.
use Rattle.std.specs.Prelude.{ℕ, Bool, not, ◌&&◌, length, Option, nat_lt}
use Rattle.std.specs.Option.{option_or}
use Rattle.sets.specs.Bounds.{first_of, when}
use Rattle.records.specs.declared.kinds.Schema.{Schema}
use Rattle.policy.specs.Contents.{Content, schema_at, parent_at, role_at}
use Rattle.checks.specs.declared.faults.SealFault.{SealFault}
use Rattle.checks.specs.declared.faults.SealFault.TheVariants.{Empty, Misplaced, Outside, Overlap, Unlike, Impatient}
use Rattle.checks.specs.Sight.{Sight, is_of, in_some, type_within}

-- the schema of role r
abbrev pub schema_of_role : Content → ℕ → Schema
schema_of_role c r = schema_at c (role_at c r).schema

-- the lower schema of parent record k
abbrev pub child_of : Content → ℕ → Schema
child_of c k = schema_at c (parent_at c k).child

-- the upper schema of parent record k
abbrev pub parent_of : Content → ℕ → Schema
parent_of c k = schema_at c (parent_at c k).parent

-- the extent type of schema a lies in that of schema b, and the logic type likewise
abbrev pub types_lie : Sight → Schema → Schema → Bool
types_lie v a b = type_within v a.extent b.extent && type_within v a.logic b.logic

module _ (v : Sight) (c : Content) where
  -- 40: place p covers no point
  abbrev pub empty : ℕ → Option SealFault
  empty p = when (not (v.point p)) (Empty p)

  -- 41: the extent of role r is no place in use, or not of its schema's extent type
  abbrev pub misplaced : ℕ → Option SealFault
  misplaced r = when (not (is_of v (schema_of_role c r).extent (role_at c r).extent)) (Misplaced r)

  -- 42: place p is of the logic type of schema s and lies in no place of its extent type
  abbrev pub outside : ℕ → ℕ → Option SealFault
  outside s p = when (is_of v (schema_at c s).logic p && not (in_some v (schema_at c s).extent p)) (Outside s p)

  -- 43: l is of the logic type of schema s, e of its extent type, they share a point and l does not lie in e
  abbrev pub overlap : ℕ → ℕ → ℕ → Option SealFault
  overlap s l e = when ((is_of v (schema_at c s).logic l && is_of v (schema_at c s).extent e) && (v.shares l e && not (v.lies l e))) (Overlap s l e)

  -- 44: the child's extent type does not lie in the parent's, or its logic type not in the parent's
  abbrev pub unlike : ℕ → Option SealFault
  unlike k = when (not (types_lie v (child_of c k) (parent_of c k))) (Unlike (parent_at c k).child (parent_at c k).parent)

  -- 45: the parent's patience is below the child's
  abbrev pub impatient : ℕ → Option SealFault
  impatient k = when (nat_lt (parent_of c k).patience (child_of c k).patience) (Impatient (parent_at c k).child (parent_at c k).parent)

  -- 42 of schema s
  abbrev pub outsides : ℕ → Option SealFault
  outsides s = first_of v.count (outside s)

  -- 43 of schema s and the logic place l
  abbrev pub overlaps : ℕ → ℕ → Option SealFault
  overlaps s l = first_of v.count (overlap s l)

  -- 43 of schema s
  abbrev pub all_overlaps : ℕ → Option SealFault
  all_overlaps s = first_of v.count (overlaps s)

  -- each check over everything before the next
  abbrev pub first_fault : Option SealFault
  first_fault =
      option_or (first_of v.count empty)
      (option_or (first_of (length c.roles) misplaced)
      (option_or (first_of (length c.schemas) outsides)
      (option_or (first_of (length c.schemas) all_overlaps)
      (option_or (first_of (length c.parents) unlike)
      (first_of (length c.parents) impatient)))))
