-- What a line does to a guard and to the text, from what its call does.
use Rattle.std.proofs.Common.{◌≡◌, ℕ, cond, List, ◌++◌, is_ok, IfOk, Some, Ok, Err, Option, Result, ap, ◌∙◌, subst}
use Rattle.std.specs.Option.{option_map}
use Rattle.plan.specs.Hall.{Hall}
use Rattle.calls.specs.declared.call.Call.{Call}
use Rattle.calls.specs.Answers.{Answer}
use Rattle.guard.specs.declared.guard.Guard.{Guard}
use Rattle.guard.specs.Stands.{Continues}
use Rattle.benchrun.specs.Lines.{Answers, GoesOn, PrintsOn, reply_to}
use Rattle.benchrun.specs.Printed.{text_of}

module _ {P : Type 0} (h : Hall) (g g' : Guard P) (e : Call) (a : Answer) where
  pub goes_on : (call : Option Call) → Some e ≡ call → Continues h g g' e a → GoesOn h g g' call (Some a)
  goes_on call is law =
      subst (λ (o : Option Call). GoesOn h g g' o (Some a)) is (λ ws c calls st. let next = law ws c calls st in (ap Some next.0, next.1))

-- a text that was appended
pub appended : {E : Type 0} (r : Result (Unit {0}) E) (old new text told : List ℕ) → text ≡ told → new ≡ cond (is_ok r) (old ++ text) old → IfOk r (λ _. new ≡ old ++ told)
appended (Ok u) old new text told is e = e ∙ ap (λ (t : List ℕ). old ++ t) is
appended (Err f) old new text told is e = tt

-- what was printed for one answer was printed for the same
reprinted : {E : Type 0} (r : Result (Unit {0}) E) (old new : List ℕ) (a b : Option Answer) → a ≡ b → IfOk r (λ _. new ≡ old ++ text_of a) → IfOk r (λ _. new ≡ old ++ text_of b)
reprinted (Ok u) old new a b is e = e ∙ ap (λ (o : Option Answer). old ++ text_of o) is
reprinted (Err f) old new a b is e = tt

module _ {P E : Type 0} (h : Hall) (g g' : Guard P) (call : Option Call) (a : Option Answer) (r : Result (Unit {0}) E) (old new : List ℕ) where
  pub prints : Answers h g g' call a → IfOk r (λ _. new ≡ old ++ text_of a) → IfOk r (λ _. new ≡ old ++ text_of (option_map (reply_to h g) call))
  prints so e = reprinted r old new a _ so.answered e

  pub prints_on : GoesOn h g g' call a → IfOk r (λ _. new ≡ old ++ text_of a) → PrintsOn h g g' call r old new
  prints_on law e ws c calls st = let next = law ws c calls st in (reprinted r old new a _ next.0 e, next.1)
