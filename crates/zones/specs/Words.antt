-- The word of a zone: type in bits 0 to 3, operator in 4 and 5, first place in 6 to 11, second place in 12 to 17, kind 6 in 28 to 31.
use Rattle.std.specs.Prelude.{ℕ, ◌+◌, ◌*◌, ◌^◌, Bool, cond, ◌&&◌, ◌==◌, nat_lt}
use Rattle.wordlist.specs.Fields.{field}
use Rattle.zones.specs.declared.zone.Rule.{Rule}
use Rattle.zones.specs.declared.zone.Rule.TheVariants.{Union, Intersection, Difference, Outside}
use Rattle.zones.specs.declared.zone.Zone.{Zone}

-- the number of the operator
abbrev pub operator_of : ℕ → ℕ
operator_of w = field 4 2 w

-- the number of the first place
abbrev pub first_of : ℕ → ℕ
first_of w = field 6 6 w

-- the number of the second place
abbrev pub second_of : ℕ → ℕ
second_of w = field 12 6 w

-- 0 union, 1 intersection, 2 difference, 3 outside
abbrev pub rule_of : ℕ → Rule
rule_of w =
    cond (operator_of w == 0) (Union (first_of w) (second_of w))
    (cond (operator_of w == 1) (Intersection (first_of w) (second_of w))
    (cond (operator_of w == 2) (Difference (first_of w) (second_of w))
    (Outside (first_of w))))

-- the zone that a word says
abbrev pub zone_of : ℕ → Zone
zone_of w = record { ty = field 0 4 w; rule = rule_of w }

-- the word of zone n: no other bit is set, and the places named are lower; outside names no second place, and has a zero there
abbrev pub sound_zone : ℕ → ℕ → Bool
sound_zone n w = field 18 10 w == 0 && (nat_lt (first_of w) n && cond (operator_of w == 3) (second_of w == 0) (nat_lt (second_of w) n))

-- operator and places, in the bits where a word has them
abbrev pub rule_word : Rule → ℕ
rule_word (Union a b) = b * 2 ^ 12 + a * 2 ^ 6 + 0 * 2 ^ 4
rule_word (Intersection a b) = b * 2 ^ 12 + a * 2 ^ 6 + 1 * 2 ^ 4
rule_word (Difference a b) = b * 2 ^ 12 + a * 2 ^ 6 + 2 * 2 ^ 4
rule_word (Outside a) = a * 2 ^ 6 + 3 * 2 ^ 4

-- the word that says a zone
abbrev pub zone_word : Zone → ℕ
zone_word z = 6 * 2 ^ 28 + rule_word z.rule + z.ty
