-- `sight_stands`: its laws.
use Rattle.checks.proofs.Sights.{some_says, types_say}
use Rattle.checks.proofs.laws.sight_stands.Goals as goal

pub returns : goal.returns
returns c = record { places = some_says; types = types_say }
