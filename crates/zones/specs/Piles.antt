-- What a list of zones over a plan means.
use Rattle.std.specs.Prelude.{ℕ, ◌-◌, Bool, not, ◌&&◌, ◌||◌, List, [], ◌∷◌, ◌++◌, length, take, fold, slice_index_or}
use Rattle.plan.specs.Hall.{Hall, Place, most_places, nowhere}
use Rattle.zones.specs.declared.zone.Rule.{Rule}
use Rattle.zones.specs.declared.zone.Rule.TheVariants.{Union, Intersection, Difference, Outside}
use Rattle.zones.specs.declared.zone.Zone.{Zone}

-- whether a floor point is in the zone, where `has k` says whether place k covers it
abbrev pub in_zone : Rule → (ℕ → Bool) → Bool
in_zone (Union a b) has = has a || has b
in_zone (Intersection a b) has = has a && has b
in_zone (Difference a b) has = has a && not (has b)
in_zone (Outside a) has = not (has a)

-- the zone as a place, over the places of lower numbers
abbrev pub zone_place : List Place → Zone → Place
zone_place ps z = record { ty = z.ty; covers = λ x y. in_zone z.rule (λ k. (slice_index_or ps k nowhere).covers x y) }

-- the places so far keep their numbers, and the zone follows
abbrev pub add_zone : List Place → Zone → List Place
add_zone ps z = ps ++ zone_place ps z ∷ []

-- the places with one zone after another
abbrev pub zones_over : List Place → List Zone → List Place
zones_over ps zs = fold add_zone ps zs

-- a plan has at most 64 places, so of a longer pile only the front is in use
abbrev pub in_use : ℕ → List Zone → List Zone
in_use below zs = take (most_places - below) zs

-- the floor stays, and the zones in use follow the places
abbrev pub zone_hall : Hall → List Zone → Hall
zone_hall h zs = record { width = h.width; height = h.height; places = zones_over h.places (in_use (length h.places) zs) }
