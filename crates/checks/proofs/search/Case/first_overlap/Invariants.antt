-- `first_overlap`: nothing below s, and of s nothing below l, and of these nothing below e.
use Rattle.std.proofs.Common.{◌≡◌, None}
use Rattle.std.specs.Result.{result_err}
use Rattle.sets.specs.Bounds.{first_of}
use Rattle.checks.specs.Faults.{overlap, overlaps, all_overlaps}
use Rattle.checks.specs.Cases.{of_case}
use Rattle.checks.proofs.search.Case.first_overlap.Given as goal

abbrev pub invariant-search : goal.invariant-search
invariant-search l = (result_err l.found ≡ None) × (first_of l.s (of_case all_overlaps l.self) ≡ None)

abbrev pub invariant-loop-l : goal.invariant-loop-l
invariant-loop-l l = (result_err l.found ≡ None) × (first_of l.s (of_case all_overlaps l.self) ≡ None) × (first_of l.l (of_case overlaps l.self l.s) ≡ None)

abbrev pub invariant-loop-e : goal.invariant-loop-e
invariant-loop-e l =
    (result_err l.found ≡ None)
    × (first_of l.s (of_case all_overlaps l.self) ≡ None)
    × (first_of l.l (of_case overlaps l.self l.s) ≡ None)
    × (first_of l.e (of_case overlap l.self l.s l.l) ≡ None)
