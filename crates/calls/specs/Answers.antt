-- What is answered to a call.
use Rattle.std.specs.Prelude.{Result}
use Rattle.calls.specs.declared.call.Reply.{Reply}
use Rattle.calls.specs.declared.refusal.Refusal.{Refusal}

-- a reply, or a refusal
abbrev pub Answer : Type 0
Answer = Result Reply Refusal
