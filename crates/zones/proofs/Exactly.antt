-- An accepted list is exactly the words of the zones that it gave, and there is room for all of them.
use Rattle.std.proofs.Common.{◌≡◌, ℕ, zero, suc, ◌+◌, ◌-◌, ◌*◌, ◌^◌, ◌<◌, ◌≤◌, true, cond, ◌&&◌, eqb, ltb, List, [], ◌∷◌, ◌++◌, map, length, Ok, Err, Result, sym, refl, ap, ◌∙◌, arith, take_all}
use Rattle.std.proofs.lemmas.List.{length_push, map-append}
use Rattle.std.proofs.lemmas.Bool.{eqb-true, ltb-true, and_parts}
use Rattle.plan.specs.Hall.{most_places}
use Rattle.wordlist.specs.declared.faults.RecordFault.{RecordFault}
use Rattle.wordlist.specs.Fields.{field, kind_of}
use Rattle.wordlist.specs.Outcomes.{given, answered, replaced}
use Rattle.wordlist.specs.Reading.{Answer, run, ended}
use Rattle.wordlist.specs.Spelling.{Adds}
use Rattle.wordlist.proofs.Spelling.{run_spelled}
use Rattle.zones.specs.declared.zone.Rule.TheVariants.{Union, Intersection, Difference, Outside}
use Rattle.zones.specs.declared.zone.Zone.{Zone}
use Rattle.zones.specs.Piles.{in_use}
use Rattle.zones.specs.Words.{operator_of, first_of, second_of, rule_of, zone_of, sound_zone, rule_word, zone_word}
use Rattle.zones.specs.Reading.{Progress, start, next_of, zone_rules, zones_from}

-- the operator o on the places a and b, where outside has no second place
rule_word_spelled : (n o a b : ℕ) → o < 4 → cond (eqb o 3) (eqb b 0) (ltb b n) ≡ true → rule_word (cond (eqb o 0) (Union a b) (cond (eqb o 1) (Intersection a b) (cond (eqb o 2) (Difference a b) (Outside a)))) ≡ b * 2 ^ 12 + a * 2 ^ 6 + o * 2 ^ 4
rule_word_spelled n zero a b l e = omega arith
rule_word_spelled n (suc zero) a b l e = omega arith
rule_word_spelled n (suc (suc zero)) a b l e = omega arith
rule_word_spelled n (suc (suc (suc zero))) a b l e = let none : b ≡ 0 = eqb-true b 0 e in omega arith
rule_word_spelled n (suc (suc (suc (suc o)))) a b l e = absurd (omega arith)

fields_word : (w r : ℕ) → kind_of w ≡ 6 → field 18 10 w ≡ 0 → r ≡ field 12 6 w * 2 ^ 12 + field 6 6 w * 2 ^ 6 + field 4 2 w * 2 ^ 4 → 6 * 2 ^ 28 + r + field 0 4 w ≡ w
fields_word w r k u e = omega arith

-- a good word is the word of its zone
zone_word_spelled : (n w : ℕ) → kind_of w ≡ 6 → sound_zone n w ≡ true → zone_word (zone_of w) ≡ w
zone_word_spelled n w k s =
    let p = and_parts (eqb (field 18 10 w) 0) (ltb (first_of w) n && cond (eqb (operator_of w) 3) (eqb (second_of w) 0) (ltb (second_of w) n)) s in
    let q = and_parts (ltb (first_of w) n) (cond (eqb (operator_of w) 3) (eqb (second_of w) 0) (ltb (second_of w) n)) p.1 in
    fields_word w (rule_word (rule_of w)) k (eqb-true (field 18 10 w) 0 p.0) (rule_word_spelled n (operator_of w) (first_of w) (second_of w) (omega arith) q.1)

-- the words of what was read so far
abbrev written : Progress → List ℕ
written s = map zone_word s.zones

-- over n places, with room for what was read
abbrev Good : ℕ → Progress → Type 0
Good n s = (s.below ≡ n) × (next_of s ≤ most_places)

adds : (n : ℕ) → Adds zone_rules written (Good n)
adds n s w o p =
    let l : next_of s < most_places = ltb-true (next_of s) most_places p.room in
    let more : s.below + length (s.zones ++ zone_of w ∷ []) ≤ most_places = omega (arith, l, length_push s.zones (zone_of w)) in
    (map-append zone_word s.zones (zone_of w ∷ []) ∙ ap (λ x. written s ++ x ∷ []) (zone_word_spelled (next_of s) w (eqb-true (kind_of w) 6 p.member) p.sound), (o.0, more))

from_run : (r : Progress × Answer) (n : ℕ) (ws : List ℕ) (zs : List Zone) → n ≤ most_places → run zone_rules (start n) 0 ws ≡ r → given (λ s. s.zones) (ended zone_rules (length ws) r) ≡ Ok zs → (map zone_word zs ≡ ws) × (n + length zs ≤ most_places)
from_run (s, Err f) n ws zs few e g = absurd (let z : ◌≡◌ {A = ℕ} 0 1 = cc in omega arith)
from_run (s, Ok u) n ws zs few e g =
    let same : s.zones ≡ zs = cc in
    let at : next_of (start n) ≤ most_places = omega arith in
    let r = run_spelled zone_rules written (Good n) (adds n) (start n) s 0 u ws (refl, at) e in
    let all : n + length zs ≤ most_places = omega (arith, r.1.0, r.1.1, ap length same) in
    (ap (map zone_word) (sym same) ∙ r.0, all)

module _ (n : ℕ) (few : n ≤ most_places) (ws : List ℕ) (old zs : List Zone) (a : Answer) where
  from_given : (r : Result (List Zone) RecordFault) → zones_from n ws ≡ r → a ≡ answered r → zs ≡ replaced old r → a ≡ Ok tt → (map zone_word zs ≡ ws) × (n + length zs ≤ most_places)
  from_given (Ok xs) e is now ok =
      let r = from_run (run zone_rules (start n) 0 ws) n ws xs few refl e in
      let all : n + length zs ≤ most_places = omega (arith, r.1, ap length now) in
      (ap (map zone_word) now ∙ r.0, all)
  from_given (Err f) e is now ok = absurd (let z : ◌≡◌ {A = ℕ} 0 1 = cc in omega arith)

  -- writing the zones out again gives the list back
  pub exactly_after : a ≡ answered (zones_from n ws) → zs ≡ replaced old (zones_from n ws) → a ≡ Ok tt → map zone_word zs ≡ ws
  exactly_after is now ok = (from_given (zones_from n ws) refl is now ok).0

  -- each zone of the list is a place
  pub all_after : a ≡ answered (zones_from n ws) → zs ≡ replaced old (zones_from n ws) → a ≡ Ok tt → in_use n zs ≡ zs
  all_after is now ok =
      let l = (from_given (zones_from n ws) refl is now ok).1 in
      take_all (most_places - n) zs (omega arith)
