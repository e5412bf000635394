-- The answer that the result of a call stands for.
use Rattle.std.specs.Prelude.{ℕ, Bool, Ok, Err, Option, Result}
use Rattle.sets.specs.declared.Set64.{Set64}
use Rattle.calls.specs.Answers.{Answer}
use Rattle.calls.specs.declared.call.Reply.{Reply}
use Rattle.calls.specs.declared.call.Reply.TheVariants.{Done, Place, Verdict, RoleSet, Granted}
use Rattle.calls.specs.declared.refusal.Refusal.{Refusal}

-- a value stands for an answer, and a refusal for itself
abbrev pub answer_of : {A : Type 0} → (A → Reply) → Result A Refusal → Answer
answer_of f (Ok x) = Ok (f x)
answer_of f (Err n) = Err n

-- of a call that tells something
abbrev pub done : Result (Unit {0}) Refusal → Answer
done r = answer_of (λ _. Done) r

-- of the question where a badge is
abbrev pub placed : Result (Option ℕ) Refusal → Answer
placed r = answer_of Place r

-- of the question whether a role is enabled
abbrev pub judged : Result Bool Refusal → Answer
judged r = answer_of Verdict r

-- of the question which roles are active and enabled
abbrev pub gathered : Result Set64 Refusal → Answer
gathered r = answer_of RoleSet r

-- of the question by which role a right is granted
abbrev pub granted : Result ℕ Refusal → Answer
granted r = answer_of Granted r
