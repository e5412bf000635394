-- Worked answers over the hall of eight by eight, by the calls alone. A list of calls has the newest first.
use Rattle.std.specs.Prelude.{◌≡◌, ℕ, List, [], ◌∷◌, Ok, Err}
use Rattle.std.specs.Result.{result_unwrap_or}
use Rattle.policy.specs.Contents.{Content, none}
use Rattle.policy.specs.Worked.{hall_words}
use Rattle.sealing.specs.Ground.{Ground, ground_of}
use Rattle.sealing.specs.Outcome.{sealing}
use Rattle.calls.specs.declared.call.Call.{Call}
use Rattle.calls.specs.declared.call.Event.TheVariants.{Report, Miss, Open, Activate, Ask}
use Rattle.calls.specs.Answers.{Answer}
use Rattle.calls.specs.declared.call.Reply.TheVariants.{Done, Granted}
use Rattle.calls.specs.declared.refusal.Refusal.TheVariants.{NotEntitled, NoRole, OutOfPatience, NotEnabled}
use Rattle.history.specs.History.{answer}
use Rattle.history.specs.Laws.{call}
use Rattle.cases.specs.Halls.{eight}

-- the policy that its words seal over the hall
abbrev pub policy : Content
policy = result_unwrap_or (sealing eight hall_words) none

-- what the hall and the policy say
abbrev pub hall : Ground
hall = ground_of eight policy

-- session 0 of badge 0 is open, with roles 0 and 1 active
abbrev pub begun : List Call
begun = call 0 (Activate 0 1) ∷ call 0 (Activate 0 0) ∷ call 0 (Open 0) ∷ []

-- and then the badge was heard at the point
abbrev pub heard : ℕ → ℕ → List Call
heard x y = call 0 (Report (record { x = x; y = y })) ∷ begun

-- and then missed once
abbrev pub missed : List Call
missed = call 0 Miss ∷ heard 2 2

-- the answer to badge 0 that asks for the operation on object 5 in session 0
abbrev pub asked : List Call → ℕ → Answer
asked calls operation = answer hall calls (call 0 (Ask 0 operation 5))

abbrev pub Rows : Type 0
Rows =
    (sealing eight hall_words ≡ Ok policy)
    -- badge 0 is entitled to role 0, an ancestor of role 1; badge 1 is not entitled to role 1
    × (answer hall (call 0 (Open 0) ∷ []) (call 0 (Activate 0 0)) ≡ Ok Done)
    × (answer hall (call 1 (Open 0) ∷ []) (call 1 (Activate 0 1)) ≡ Err NotEntitled)
    -- never heard; neither role has operation 3
    × (asked begun 2 ≡ Err OutOfPatience)
    × (asked begun 3 ≡ Err NoRole)
    -- role 1 alone has operation 2; both have operation 1, and role 0 is the lowest
    × (asked (heard 2 2) 2 ≡ Ok (Granted 1))
    × (asked (heard 2 2) 1 ≡ Ok (Granted 0))
    -- no place of type 2 covers (3,2)
    × (asked (heard 3 2) 2 ≡ Err NotEnabled)
    -- one miss is more than role 1 bears, and not more than role 0
    × (asked missed 2 ≡ Err OutOfPatience)
    × (asked missed 1 ≡ Ok (Granted 0))
