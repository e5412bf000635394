-- A policy without badges and records says nothing, and so does a site with it.
use Rattle.std.proofs.Common.{◌≡◌, ℕ, Bool, false, ltb, arith}
use Rattle.std.proofs.lemmas.List.{nil_from_length}
use Rattle.std.proofs.lemmas.Bool.{le-ltb, and_left}
use Rattle.policy.specs.Contents.{Content, none}
use Rattle.rights.specs.Ancestors.{ancestor}
use Rattle.rights.specs.Extents.{extent_holds}
use Rattle.rights.proofs.Aboves.{none_above}
use Rattle.rights.specs.Reach.{reaches}
use Rattle.site.specs.Blank.{record_count}

pub says_nothing : (c : Content) → c.badges ≡ 0 → record_count c ≡ 0 → c ≡ none
says_nothing c none-worn few = λ i. record {
  badges = none-worn i;
  schemas = nil_from_length c.schemas (omega arith) i;
  parents = nil_from_length c.parents (omega arith) i;
  roles = nil_from_length c.roles (omega arith) i;
  schema_permissions = nil_from_length c.schema_permissions (omega arith) i;
  role_permissions = nil_from_length c.role_permissions (omega arith) i;
  assignments = nil_from_length c.assignments (omega arith) i;
}

-- without roles no place lies in the extent of one
pub holds_nothing : (n : ℕ) (lies : ℕ → ℕ → Bool) (r p : ℕ) → extent_holds n lies none r p ≡ false
holds_nothing n lies r p = and_left _ _ (and_left (ltb r 0) (ltb p n) (le-ltb r 0 (omega arith)))

-- and there is no ancestor
pub nothing_above : (lies : ℕ → ℕ → Bool) (r a : ℕ) → ancestor lies none r a ≡ false
nothing_above lies r a = none_above none (reaches none) lies r a (omega arith)
