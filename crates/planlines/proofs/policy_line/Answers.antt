use Rattle.std.proofs.Common.{sym}
use Rattle.planlines.proofs.policy_line.Goals as goal

pub returns : goal.returns
returns c = simp (sym c.badges-badges.ensures, sym c.schema_count-schemas.ensures, sym c.parent_count-parents.ensures, sym c.role_count-roles.ensures) c.format.ensures.ok
