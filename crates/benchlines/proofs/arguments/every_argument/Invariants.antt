use Rattle.std.proofs.Common.{◌≡◌, ◌-◌, length, take}
use Rattle.benchlines.specs.Arguments.{arguments_of}
use Rattle.benchlines.proofs.Steps.{after}
use Rattle.benchlines.proofs.arguments.every_argument.Given as goal

-- the arguments read, with those that are left, are all
abbrev pub invariant-loop-number : goal.invariant-loop-number
invariant-loop-number g l =
    (after (take l.number-index l.number-items) (arguments_of l.most (g.row.N - l.number-index) l.rest) ≡ arguments_of l.most g.row.N l.line)
    × (length l.number-items ≡ g.row.N)
