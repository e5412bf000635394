-- What a site keeps, as what calls and questions ask of it.
use Rattle.plan.specs.Hall.{Hall, on_floor as is_on_floor}
use Rattle.policy.specs.Policies.{says}
use Rattle.sets.specs.Rows.{cell}
use Rattle.sealing.specs.Ground.{Ground, place_at}
use Rattle.site.specs.declared.site.Site.{Site}

module _ {P : Type 0} where
  -- the ground of a site whose plan means the hall
  abbrev pub ground : Hall → Site P → Ground
  ground h s = record {
    content = says s.policy;
    on_floor = is_on_floor h;
    placed_at = place_at h;
    holds = cell s.inside;
    above = cell s.above;
  }

  -- the ground of a site whose plan means what `hall` says of it; no model of a site, since a ground has functions in it
  abbrev pub ground_by : (P → Hall) → Site P → Ground
  ground_by hall s = ground (hall s.plan) s
