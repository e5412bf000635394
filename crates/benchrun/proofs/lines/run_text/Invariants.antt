-- `run_text`: wherever the guard stood at first, it stands after the calls so far, and what is left to print is the rest.
use Rattle.std.proofs.Common.{string_bytes}
use Rattle.benchlines.specs.Input.{lines_of, left}
use Rattle.benchrun.proofs.Running.{GoesSo}
use Rattle.benchrun.proofs.lines.run_text.Given as goal

abbrev pub invariant-loop-line : goal.invariant-loop-line
invariant-loop-line g l = GoesSo (g.P.Plan.hall l.initial.guard.site.plan) l.initial.guard l.guard (lines_of l.input) (string_bytes l.out) (left l.line-iterator)
