-- The guard that is built in.
use Rattle.std.specs.Prelude.{◌≡◌, ℕ, List, [], Ok}
use Rattle.plan.specs.Hall.{Hall}
use Rattle.policy.specs.Contents.{Content}
use Rattle.policy.specs.Worked.{hall_words}
use Rattle.listed.specs.Layouts.{hall_of, layout_of}
use Rattle.listed.specs.declared.listed.Listed.{Listed}
use Rattle.drawn.specs.declared.outline.Outline.{Outline}
use Rattle.drawn.specs.Drawings.{drawn_make, drawing_of}
use Rattle.sealing.specs.Ground.{ground_of}
use Rattle.sealing.specs.Outcome.{sealing}
use Rattle.cases.specs.Halls.{eight}
use Rattle.guard.specs.declared.guard.Guard.{Guard}
use Rattle.guard.specs.Kept.{ground_in}
use Rattle.guard.specs.Stands.{Stands}
use Rattle.benchrun.specs.declared.faults.BenchFault.{BenchFault}
use Rattle.benchrun.specs.declared.faults.BenchFault.TheVariants.{Memory, Plan, Seal}
use Rattle.benchrun.specs.Printed.{printed}

-- what a drawn plan means
abbrev pub hall_of_plan : Listed Outline → Hall
hall_of_plan p = hall_of drawn_make.meaning (layout_of drawing_of p.sheet)

-- the guard's plan is the hall of eight by eight, and the guard was sealed with its policy, with no call since
pub record Ready (g : Guard (Listed Outline)) : Type 0 where
  pub hall : hall_of_plan g.site.plan ≡ eight
  pub stands : Stands (hall_of_plan g.site.plan) hall_words (ground_in (hall_of_plan g.site.plan) g).content [] g

-- the fault is a want of memory
abbrev pub LacksMemory : BenchFault → Type 0
LacksMemory (Memory e) = Unit {0}
LacksMemory (Plan f) = ⊥
LacksMemory (Seal f) = ⊥

-- the text is what is printed for the input by a guard over the hall, newly sealed with its policy
pub record Bench (input text : List ℕ) : Type 0 where
  pub prints : (c : Content) → sealing eight hall_words ≡ Ok c → text ≡ printed (ground_of eight c) input
