-- Worked lines: the calls of good ones, bad ones, inputs cut into lines, and printed answers.
use Rattle.std.specs.Prelude.{◌≡◌, ℕ, true, false, List, [], ◌∷◌, ◌++◌, Some, None, Ok, Err, codes, Option}
use Rattle.calls.specs.declared.call.Call.{Call}
use Rattle.calls.specs.declared.call.Event.{Event}
use Rattle.calls.specs.declared.call.Event.TheVariants.{Report, Miss, Open, Close, Activate, Drop, Ask}
use Rattle.calls.specs.declared.call.Reply.TheVariants.{Done, Place, Verdict, RoleSet, Granted}
use Rattle.calls.specs.declared.refusal.Refusal.TheVariants.{UnknownBadge, NotEnabled}
use Rattle.benchlines.specs.Answers.{answer_text}
use Rattle.benchlines.specs.Input.{lines_of, line_feed}
use Rattle.benchlines.specs.Lines.{line_call}

abbrev tab : ℕ
tab = 9

abbrev carriage_return : ℕ
carriage_return = 13

-- the event for the badge
abbrev pub of_badge : ℕ → Event → Option Call
of_badge b e = Some (record { badge = b; event = e })

pub record GoodLines : Type 0 where
  pub report : line_call (codes "R 0 2 2") ≡ of_badge 0 (Report (record { x = 2; y = 2 }))
  pub miss : line_call (codes "M 1") ≡ of_badge 1 Miss
  pub opens : line_call (codes "O 0 3") ≡ of_badge 0 (Open 3)
  pub closes : line_call (codes "C 0 3") ≡ of_badge 0 (Close 3)
  pub activates : line_call (codes "A 0 0 12") ≡ of_badge 0 (Activate 0 12)
  pub drops : line_call (codes "D 0 0 12") ≡ of_badge 0 (Drop 0 12)
  pub asks : line_call (codes "Q 0 1 16 255") ≡ of_badge 0 (Ask 1 16 255)
  pub largest : line_call (codes "Q 999 999 999 999") ≡ of_badge 999 (Ask 999 999 999)
  pub zeros : line_call (codes "M 000") ≡ of_badge 0 Miss
  pub zeros_in_front : line_call (codes "M 007") ≡ of_badge 7 Miss

-- the line makes no call
abbrev pub Bad : List ℕ → Type 0
Bad bs = line_call bs ≡ None

pub record BadLines : Type 0 where
  pub empty : Bad []
  pub letter_alone : Bad (codes "M")
  pub lower_case : Bad (codes "m 0")
  pub unknown_letter : Bad (codes "X 0")
  pub two_letters : Bad (codes "MM 0")
  pub space_in_front : Bad (codes " M 0")
  pub two_spaces : Bad (codes "M  0")
  pub space_at_end : Bad (codes "M 0 ")
  pub no_space : Bad (codes "M0")
  pub with_tab : Bad (codes "M" ++ tab ∷ codes "0")
  pub with_return : Bad (codes "M 0" ++ carriage_return ∷ [])
  pub four_digits : Bad (codes "M 0000")
  pub argument_missing : Bad (codes "R 0 2")
  pub argument_more : Bad (codes "M 0 0")
  pub minus : Bad (codes "M -1")
  pub plus : Bad (codes "M +1")
  pub hexadecimal : Bad (codes "M 0x1")
  pub stop : Bad (codes "M 1.")
  pub zero_byte : Bad (codes "M 0" ++ 0 ∷ [])
  pub high_byte : Bad (codes "M " ++ 200 ∷ [])

pub record CutInputs : Type 0 where
  pub nothing : lines_of [] ≡ []
  pub feed_alone : lines_of (line_feed ∷ []) ≡ [] ∷ []
  pub no_feed : lines_of (codes "M 0") ≡ codes "M 0" ∷ []
  pub feed_at_end : lines_of (codes "M 0" ++ line_feed ∷ []) ≡ codes "M 0" ∷ []
  pub two_feeds : lines_of (codes "M 0" ++ line_feed ∷ line_feed ∷ []) ≡ codes "M 0" ∷ [] ∷ []
  pub two_lines : lines_of (codes "O 0 0" ++ line_feed ∷ codes "M 0") ≡ codes "O 0 0" ∷ codes "M 0" ∷ []

pub record PrintedLines : Type 0 where
  pub done : answer_text (Ok Done) ≡ codes "ok"
  pub granted : answer_text (Ok (Granted 12)) ≡ codes "grant 12"
  pub first_refusal : answer_text (Err UnknownBadge) ≡ codes "no 1"
  pub last_refusal : answer_text (Err NotEnabled) ≡ codes "no 13"
  pub at_place : answer_text (Ok (Place (Some 7))) ≡ codes "place 7"
  pub nowhere : answer_text (Ok (Place None)) ≡ codes "none"
  pub enabled : answer_text (Ok (Verdict true)) ≡ codes "yes"
  pub not_enabled : answer_text (Ok (Verdict false)) ≡ codes "not"
  pub roles : answer_text (Ok (RoleSet (record { bits = 18364758544493064720 }))) ≡ codes "roles fedcba9876543210"
