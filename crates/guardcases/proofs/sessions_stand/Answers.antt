-- `sessions_stand`: each session computes.
use Rattle.std.proofs.Common.{refl}
use Rattle.std.specs.Fmt.{digits}
use Rattle.guardcases.proofs.sessions_stand.Goals as goal

pub returns : goal.returns
unfolding digits
returns c = record { one_role = refl; every_refusal = refl; with_bad = refl }
