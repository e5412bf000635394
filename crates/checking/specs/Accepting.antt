-- When all of a text is accepted: the text, its plan, the zones over it, each over what came before, and its policy.
use Rattle.std.specs.Prelude.{ℕ, Bool, true, false, cond, List, length, is_ok, Some, None, Ok, Err, Option, Result}
use Rattle.plan.specs.Hall.{Hall}
use Rattle.wordlist.specs.declared.faults.RecordFault.{RecordFault}
use Rattle.listed.specs.Layouts.{hall_of}
use Rattle.listed.specs.Makes.{Make}
use Rattle.listed.specs.Reading.{layout_from}
use Rattle.drawn.specs.Drawings.{drawn_make}
use Rattle.cells.specs.CellSets.{cells_make}
use Rattle.zones.specs.Piles.{zone_hall}
use Rattle.zones.specs.Reading.{zones_from}
use Rattle.policy.specs.Reading.{content_from}
use Rattle.plantext.specs.declared.faults.TextFault.{TextFault}
use Rattle.plantext.specs.declared.page.Heading.{Heading}
use Rattle.plantext.specs.declared.page.Heading.TheVariants.{Drawn, Cells, Zones, Policy}
use Rattle.plantext.specs.Reading.{Content, heading_at, is_policy, words_at, text_of}

-- what f makes of an accepted list
abbrev pub taken : {X Y : Type 0} → (X → Y) → Result X RecordFault → Option Y
taken f (Ok x) = Some (f x)
taken f (Err e) = None

-- goes on with what was accepted
abbrev pub onward : {X : Type 0} → Option X → (X → Bool) → Bool
onward None k = false
onward (Some x) k = k x

-- the hall of a plan list, and of a zone list over a hall
abbrev pub listed_of : {P : Type 0} → Make P → List ℕ → Option Hall
listed_of m ws = taken (hall_of m.meaning) (layout_from m ws)

abbrev pub piled_of : Hall → List ℕ → Option Hall
piled_of h ws = taken (zone_hall h) (zones_from (length h.places) ws)

abbrev pub is_zones : Option Heading → Bool
is_zones None = false
is_zones (Some Drawn) = false
is_zones (Some Cells) = false
is_zones (Some Zones) = true
is_zones (Some Policy) = false

-- section k is a list of zones
abbrev pub zones_at : ℕ → Content → Bool
zones_at k c = is_zones (heading_at k c)

-- section k is a policy
abbrev pub policy_at : ℕ → Content → Bool
policy_at k c = is_policy (heading_at k c)

-- section k is an accepted policy, or none
abbrev pub policy_accepts : ℕ → Content → Bool
policy_accepts k c = cond (policy_at k c) (is_ok (content_from (words_at k c))) true

-- the second list of zones, over h, and what follows
abbrev pub second_accepts : Hall → Content → Bool
second_accepts h c = cond (zones_at 2 c) (onward (piled_of h (words_at 2 c)) (λ g. policy_accepts 3 c)) (policy_accepts 2 c)

-- the first list of zones, over h, and what follows
abbrev pub first_accepts : Hall → Content → Bool
first_accepts h c = cond (zones_at 1 c) (onward (piled_of h (words_at 1 c)) (λ g. second_accepts g c)) (policy_accepts 1 c)

-- the plan, and what follows
abbrev pub list_accepts : {P : Type 0} → Make P → Content → Bool
list_accepts m c = onward (listed_of m (words_at 0 c)) (λ h. first_accepts h c)

abbrev pub plan_accepts : Option Heading → Content → Bool
plan_accepts None c = false
plan_accepts (Some Drawn) c = list_accepts drawn_make c
plan_accepts (Some Cells) c = list_accepts cells_make c
plan_accepts (Some Zones) c = false
plan_accepts (Some Policy) c = false

abbrev pub read_accepts : Result Content TextFault → Bool
read_accepts (Ok c) = plan_accepts (heading_at 0 c) c
read_accepts (Err f) = false

abbrev pub accepts : List ℕ → Bool
accepts text = read_accepts (text_of text)
