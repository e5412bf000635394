-- What sealing a list of policy words over a hall comes to.
use Rattle.std.specs.Prelude.{ℕ, Bool, cond, List, Some, None, Ok, Err, Option, Result, nat_lt}
use Rattle.wordlist.specs.declared.faults.RecordFault.{RecordFault}
use Rattle.plan.specs.Hall.{Hall}
use Rattle.policy.specs.Contents.{Content}
use Rattle.policy.specs.Reading.{content_from}
use Rattle.checks.specs.declared.faults.SealFault.{SealFault}
use Rattle.checks.specs.declared.faults.SealFault.TheVariants.{Record, Sealed}
use Rattle.checks.specs.Sight.{sight_of}
use Rattle.checks.specs.Faults.{first_fault}

-- a policy in which no fault is found
abbrev pub unless : Option SealFault → Content → Result Content SealFault
unless None c = Ok c
unless (Some f) c = Err f

-- what was read, if the rules allow it over the hall
abbrev pub allowed : Hall → Result Content RecordFault → Result Content SealFault
allowed h (Err f) = Err (Record f)
allowed h (Ok c) = unless (first_fault (sight_of h) c) c

-- the policy that the words give over the hall, or the first fault: of the words, then of the checks
abbrev pub sealing : Hall → List ℕ → Result Content SealFault
sealing h ws = allowed h (content_from ws)

-- a policy with badges was sealed
abbrev pub is_sealed : Content → Bool
is_sealed c = nat_lt 0 c.badges

-- the same where `before` is what was sealed already, if anything
abbrev pub sealing_after : Content → Hall → List ℕ → Result Content SealFault
sealing_after before h ws = cond (is_sealed before) (Err Sealed) (sealing h ws)

-- the answer to a sealing
abbrev pub sealed_or : Result Content SealFault → Result (Unit {0}) SealFault
sealed_or (Ok c) = Ok tt
sealed_or (Err f) = Err f

-- the new where sealing was accepted, and the old where it was refused
abbrev pub kept_unless : {X : Type 0} → Result (Unit {0}) SealFault → X → X → X
kept_unless (Ok u) new old = new
kept_unless (Err f) new old = old
