-- `new`: nothing is sealed, and no badge is heard.
use Rattle.guard.proofs.Fresh.{all_fresh}
use Rattle.guard.proofs.guard.Guard.new.Goals as goal

pub returns : goal.returns
returns g c =
    let made = c.in_ok-site.ensures in
    (made.0, made.1, all_fresh 128 c.fresh.result c.fresh.ensures)
