-- The printed line of an answer.
use Rattle.std.specs.Prelude.{ℕ, zero, suc, ◌+◌, ◌*◌, ◌/◌, ◌%◌, ◌^◌, true, false, cond, List, [], ◌∷◌, ◌++◌, Some, None, Ok, Err, codes, decimal, nat_lt}
use Rattle.calls.specs.Numbers.{number}
use Rattle.calls.specs.Answers.{Answer}
use Rattle.calls.specs.declared.call.Reply.TheVariants.{Done, Place, Verdict, RoleSet, Granted}

-- a digit's letter: 0 to 9, then a to f
abbrev pub glyph : ℕ → ℕ
glyph d = cond (nat_lt d 10) (48 + d) (87 + d)

-- the last n hexadecimal digits of a word
abbrev pub hex : ℕ → ℕ → List ℕ
hex zero w = []
hex (suc k) w = glyph (w / 2 ^ (4 * k) % 16) ∷ hex k w

abbrev pub answer_text : Answer → List ℕ
answer_text (Ok Done) = codes "ok"
answer_text (Ok (Place (Some place))) = codes "place " ++ decimal place
answer_text (Ok (Place None)) = codes "none"
answer_text (Ok (Verdict true)) = codes "yes"
answer_text (Ok (Verdict false)) = codes "not"
answer_text (Ok (RoleSet roles)) = codes "roles " ++ hex 16 roles.bits
answer_text (Ok (Granted role)) = codes "grant " ++ decimal role
answer_text (Err refusal) = codes "no " ++ decimal (number refusal)
