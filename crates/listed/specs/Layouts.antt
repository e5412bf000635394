-- A floor and its places, as a list of words gives them.
use Rattle.std.specs.Prelude.{◌≡◌, List, [], map}
use Rattle.plan.specs.Hall.{Hall, Place}
use Rattle.listed.specs.declared.floor.Floor.{Floor}
use Rattle.listed.specs.declared.sheet.Sheet.{Sheet}

pub record Layout (P : Type 0) : Type 0 where
  pub floor : Floor
  pub places : List P

-- a floor of one point with no place
abbrev pub blank : {P : Type 0} → Layout P
blank = record { floor = record { width = 1; height = 1 }; places = [] }

-- a sheet that nothing is drawn on
pub record Bare {S : Type 0} (s : Sheet S) : Type 0 where
  pub floor : s.floor ≡ record { width = 1; height = 1 }
  pub places : s.places.records.items ≡ []

-- what a sheet says, where `model` tells what a kept place says
abbrev pub layout_of : {S P : Type 0} → (S → P) → Sheet S → Layout P
layout_of model s = record { floor = s.floor; places = map model s.places.records.items }

-- what a layout means as a plan, where `meaning` tells the type and the points of a place
abbrev pub hall_of : {P : Type 0} → (P → Place) → Layout P → Hall
hall_of meaning l = record { width = l.floor.width; height = l.floor.height; places = map meaning l.places }
