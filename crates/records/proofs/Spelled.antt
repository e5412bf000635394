-- A word of a kind, with no unnamed bit set, is the word of what it says.
use mathlib.Core.Path.{◌≡◌}
use Prim.Native.Nat.{ℕ, ◌+◌, ◌*◌, ◌/◌, ◌^◌}
use native.Mathlib.Omega.{arith}
use Rattle.wordlist.specs.Fields.{field, kind_of}
use Rattle.records.specs.Words.{badges_of, schema_of, parent_of, role_of, schema_permission_of, role_permission_of, assignment_of, badges_word, schema_word, parent_word, role_word, schema_permission_word, role_permission_word, assignment_word}

-- the low bits in two fields
low_8 : (w q : ℕ) → w / 2 ^ 8 ≡ q → q * 2 ^ 8 + field 4 4 w * 2 ^ 4 + field 0 4 w ≡ w
low_8 w q high = let twice : w / 2 ^ 4 / 2 ^ 4 ≡ w / 2 ^ 8 = omega arith in omega (arith, twice)

low_12 : (w q : ℕ) → w / 2 ^ 12 ≡ q → q * 2 ^ 12 + field 8 4 w * 2 ^ 8 + field 0 8 w ≡ w
low_12 w q high = let twice : w / 2 ^ 8 / 2 ^ 4 ≡ w / 2 ^ 12 = omega arith in omega (arith, twice)

spread_8 : (w k a b c : ℕ) → (k + a) * 2 ^ 8 + b * 2 ^ 4 + c ≡ w → k * 2 ^ 8 + a * 2 ^ 8 + b * 2 ^ 4 + c ≡ w
spread_8 w k a b c e = omega arith

spread_12 : (w k a b c : ℕ) → (k + a) * 2 ^ 12 + b * 2 ^ 8 + c ≡ w → k * 2 ^ 12 + a * 2 ^ 12 + b * 2 ^ 8 + c ≡ w
spread_12 w k a b c e = omega arith

pub badges_word_spelled : (w : ℕ) → kind_of w ≡ 7 → field 8 20 w ≡ 0 → badges_word (badges_of w) ≡ w
badges_word_spelled w k u = omega arith

pub schema_word_spelled : (w : ℕ) → kind_of w ≡ 8 → field 10 18 w ≡ 0 → schema_word (schema_of w) ≡ w
schema_word_spelled w k u =
    let high : w / 2 ^ 8 ≡ 8 * 2 ^ 20 + field 8 2 w = omega arith in
    spread_8 w (8 * 2 ^ 20) (field 8 2 w) (field 4 4 w) (field 0 4 w) (low_8 w (8 * 2 ^ 20 + field 8 2 w) high)

pub parent_word_spelled : (w : ℕ) → kind_of w ≡ 9 → field 10 18 w ≡ 0 → parent_word (parent_of w) ≡ w
parent_word_spelled w k u = omega arith

pub role_word_spelled : (w : ℕ) → kind_of w ≡ 10 → field 11 17 w ≡ 0 → role_word (role_of w) ≡ w
role_word_spelled w k u = omega arith

pub schema_permission_word_spelled : (w : ℕ) → kind_of w ≡ 11 → field 17 11 w ≡ 0 → schema_permission_word (schema_permission_of w) ≡ w
schema_permission_word_spelled w k u =
    let high : w / 2 ^ 12 ≡ 11 * 2 ^ 16 + field 12 5 w = omega arith in
    spread_12 w (11 * 2 ^ 16) (field 12 5 w) (field 8 4 w) (field 0 8 w) (low_12 w (11 * 2 ^ 16 + field 12 5 w) high)

pub role_permission_word_spelled : (w : ℕ) → kind_of w ≡ 12 → field 18 10 w ≡ 0 → role_permission_word (role_permission_of w) ≡ w
role_permission_word_spelled w k u =
    let high : w / 2 ^ 12 ≡ 12 * 2 ^ 16 + field 12 6 w = omega arith in
    spread_12 w (12 * 2 ^ 16) (field 12 6 w) (field 8 4 w) (field 0 8 w) (low_12 w (12 * 2 ^ 16 + field 12 6 w) high)

pub assignment_word_spelled : (w : ℕ) → kind_of w ≡ 13 → field 13 15 w ≡ 0 → assignment_word (assignment_of w) ≡ w
assignment_word_spelled w k u = omega arith
