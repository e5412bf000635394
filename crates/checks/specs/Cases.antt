-- A policy over what was seen of a plan, and what a check that is handed over finds.
use Rattle.std.specs.Prelude.{◌≡◌, ℕ, ◌<◌, Option, Result}
use Rattle.std.specs.Result.{result_err}
use Rattle.policy.specs.Contents.{Content}
use Rattle.policy.specs.Policies.{says}
use Rattle.checks.specs.declared.faults.SealFault.{SealFault}
use Rattle.checks.specs.declared.search.Case.{Case}
use Rattle.checks.specs.Sight.{Sight, kept}

-- what f says of what the case's survey keeps and its policy says
abbrev pub of_case : {X : Type 0} → (Sight → Content → X) → Case → X
of_case f c = f (kept c.survey.now) (says c.policy.now)

-- at each number below n the check finds what f says; `calls k r` is that a call with k can answer r
abbrev pub FindsBy : ℕ → (ℕ → Result Unit SealFault → Type 0) → (ℕ → Option SealFault) → Type 0
FindsBy n calls f = (k : ℕ) (r : Result Unit SealFault) → k < n → calls k r → result_err r ≡ f k
