-- `answer_line`: the word of a set is printed in all its digits.
use Rattle.std.proofs.Common.{rules}
use Rattle.benchlines.proofs.Hexes.{hex_word}
use Rattle.benchlines.proofs.answer.answer_line.Goals as goal

pub returns-in-Ok-RoleSet : goal.returns-in-Ok-RoleSet
returns-in-Ok-RoleSet c = search (rules, hex_word)
