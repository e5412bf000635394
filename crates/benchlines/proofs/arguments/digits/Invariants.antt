use Rattle.std.proofs.Common.{◌≡◌, ◌-◌}
use Rattle.benchlines.specs.Arguments.{digits_of}
use Rattle.benchlines.proofs.arguments.digits.Given as goal

-- what is left carries the number on to what all digits say
abbrev pub invariant-loop : goal.invariant-loop
invariant-loop l = digits_of (l.most - l.counter) l.number l.rest ≡ digits_of l.most 0 l.line
