-- How a policy is read from a list of words.
use Rattle.std.specs.Prelude.{ℕ, List, Result}
use Rattle.wordlist.specs.declared.faults.RecordFault.{RecordFault}
use Rattle.wordlist.specs.Outcomes.{given}
use Rattle.wordlist.specs.Reading.{read_of}
use Rattle.policy.specs.Contents.{Content, none}
use Rattle.policy.specs.Rules.{policy_rules}

-- what a list says, or the first fault of it
abbrev pub content_from : List ℕ → Result Content RecordFault
content_from ws = given (λ c. c) (read_of policy_rules none ws)
