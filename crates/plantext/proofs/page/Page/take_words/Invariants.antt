-- `take_words`: what its loop keeps true.
use Rattle.std.proofs.Common.{◌≡◌, ◌+◌, ◌≤◌, length, vec_len}
use Rattle.plantext.specs.Parts.{words_of}
use Rattle.plantext.specs.Reading.{content_of, room_of, words_taken}
use Rattle.plantext.proofs.page.Page.take_words.Given as goal

-- the words that are left, taken from here on, give what the line gives, and have room
abbrev pub invariant-loop-word : goal.invariant-loop-word
invariant-loop-word l =
    (words_taken (words_of l.word-iterator.0.now) (content_of l.self) ≡ words_taken (words_of l.line) (content_of l.initial.self))
    × (vec_len l.self.words + length (words_of l.word-iterator.0.now) ≤ vec_len l.initial.self.words + length (words_of l.line))
    × (room_of l.self ≡ room_of l.initial.self)
