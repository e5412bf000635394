-- `note`: the entries below i are changed.
use Rattle.survey.specs.Entries.{Changed}
use Rattle.survey.proofs.make.note.Given as goal

abbrev pub invariant-loop-i : goal.invariant-loop-i
invariant-loop-i l = Changed l.at.bits l.i l.initial.places l.places
