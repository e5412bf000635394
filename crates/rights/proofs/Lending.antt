-- Laws of rights.
use Rattle.std.proofs.Common.{Bool, ◌&&◌, length, ap}
use Rattle.std.proofs.lemmas.Bool.{and_parts, and_from}
use Rattle.sets.proofs.Bounds.{decides_some, some_same, some_here}
use Rattle.rights.specs.Rights.{carries, lends}
use Rattle.rights.specs.Laws.{RightMeans, RightDown, RightSame}

pub right_means : RightMeans
right_means above c r operation object = (
  (λ e.
      let found = (decides_some (lends above c r operation object) (length c.roles)).0 e in
      let both = and_parts (above r found.0) (carries c found.0 operation object) found.2 in
      (found.0, found.1, both.0, both.1)),
  (λ w. some_here (lends above c r operation object) w.0 (length c.roles) w.1 (and_from _ _ w.2 w.3)),
)

pub right_down : RightDown
right_down above c on r a operation object up e =
    let w = (right_means above c a operation object).0 e in
    (right_means above c r operation object).1 (w.0, w.1, on r a w.0 up w.2, w.3)

pub right_same : RightSame
right_same f g c r operation object e =
    some_same (length c.roles) (lends f c r operation object) (lends g c r operation object) (λ a l. ap (λ (b : Bool). b && carries c a operation object) (e a))
