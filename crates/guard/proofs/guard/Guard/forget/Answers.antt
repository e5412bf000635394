-- `forget`: every badge is fresh.
use Rattle.std.proofs.Common.{refl}
use Rattle.guard.proofs.Fresh.{all_fresh}
use Rattle.guard.proofs.guard.Guard.forget.Goals as goal

pub returns : goal.returns
returns g c = record { site = refl; kept = all_fresh 128 c.fresh-self.result c.fresh-self.ensures }
