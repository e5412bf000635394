-- `take_lines`: what its loop keeps true.
use Rattle.std.proofs.Common.{◌≡◌, ◌+◌, ◌≤◌, length, vec_len, sum_by}
use Rattle.plantext.specs.Parts.{lines_of}
use Rattle.plantext.specs.Reading.{content_of, room_of, lines_taken}
use Rattle.plantext.proofs.page.Page.take_lines.Given as goal

-- the lines that are left, taken from here on, give what the text gives, and have room
abbrev pub invariant-loop-line : goal.invariant-loop-line
invariant-loop-line l =
    (lines_taken l.number (lines_of l.line-iterator.0.now) (content_of l.self) ≡ lines_taken 1 (lines_of l.text) (content_of l.initial.self))
    × (vec_len l.self.words + sum_by length (lines_of l.line-iterator.0.now) ≤ vec_len l.initial.self.words + sum_by length (lines_of l.text))
    × (room_of l.self ≡ room_of l.initial.self)
    × (l.number + length (lines_of l.line-iterator.0.now) ≤ 1 + length (lines_of l.text))
