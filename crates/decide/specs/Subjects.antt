-- What a call or a question of a badge comes to, by its number and by what is kept of it, over a site.
use Rattle.std.specs.Prelude.{Option}
use Rattle.plan.specs.Hall.{Hall}
use Rattle.sealing.specs.Ground.{Ground}
use Rattle.calls.specs.Answers.{Answer}
use Rattle.calls.specs.declared.call.Event.{Event}
use Rattle.calls.specs.declared.refusal.Refusal.{Refusal}
use Rattle.calls.specs.Kept.{standing_of}
use Rattle.history.specs.Laws.{call}
use Rattle.history.specs.Refusals.{refusal}
use Rattle.history.specs.Replies.{reply}
use Rattle.site.specs.Kept.{ground_by}
use Rattle.decide.specs.declared.subject.Subject.{Subject}

module _ {P : Type 0} (hall : P → Hall) (s : Subject P) where
  -- the ground, where a plan means what `hall` says of it
  abbrev pub over : Ground
  over = ground_by hall s.site.now

  -- why an event of the badge is refused, if it is
  abbrev pub refused_by : Event → Option Refusal
  refused_by e = refusal over (standing_of s.badge.now) (call s.number e)

  -- what the badge's call or question is answered
  abbrev pub reply_by : Event → Answer
  reply_by e = reply over (standing_of s.badge.now) (call s.number e)
