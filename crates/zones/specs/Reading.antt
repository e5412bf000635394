-- How a zone list is read.
use Rattle.std.specs.Prelude.{ℕ, ◌+◌, true, false, List, [], ◌∷◌, ◌++◌, length, Result, ◌==◌, nat_lt}
use Rattle.plan.specs.Hall.{Hall, most_places}
use Rattle.wordlist.specs.declared.faults.RecordFault.{RecordFault}
use Rattle.wordlist.specs.Outcomes.{given, replaced}
use Rattle.wordlist.specs.Reading.{Rules, read_of}
use Rattle.zones.specs.declared.zone.Zone.{Zone}
use Rattle.zones.specs.declared.draft.Draft.{Draft}
use Rattle.zones.specs.Piles.{zone_hall}
use Rattle.zones.specs.Words.{sound_zone, zone_of}

-- how many places are below, and the zones read so far
pub record Progress : Type 0 where
  pub below : ℕ
  pub zones : List Zone

-- nothing read yet, over n places
abbrev pub start : ℕ → Progress
start n = record { below = n; zones = [] }

-- the number that the next zone will have
abbrev pub next_of : Progress → ℕ
next_of s = s.below + length s.zones

-- words of kind 6 in any number, as long as the plan has room for one place more
abbrev pub zone_rules : Rules Progress
zone_rules = record {
  member = λ k. (k == 6);
  turn = λ s w. true;
  room = λ s w. nat_lt (next_of s) most_places;
  sound = λ s w. sound_zone (next_of s) w;
  taken = λ s w. record { below = s.below; zones = s.zones ++ zone_of w ∷ [] };
  owes = λ s. false;
}

-- the zones that a list says over n places, or the first fault of it
abbrev pub zones_from : ℕ → List ℕ → Result (List Zone) RecordFault
zones_from n ws = given (λ s. s.zones) (read_of zone_rules (start n) ws)

-- what the program holds
abbrev pub progress_of : Draft → Progress
progress_of d = record { below = d.below; zones = d.zones.records.items }

-- what a plan with a list put over it means: refused words add no zone
abbrev pub pile_from : Hall → List ℕ → Hall
pile_from h ws = zone_hall h (replaced [] (zones_from (length h.places) ws))
