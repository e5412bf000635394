-- Badges of which nothing is known yet.
use Rattle.std.proofs.Common.{◌≡◌, ℕ, ◌<◌, ◌≤◌, false, ltb, List, length, get_or, replicate, sym, refl, ap, ◌∙◌, ⊎_elim, arith}
use lib.ListN.{length-replicate}
use Rattle.std.proofs.lemmas.List.{get_or_past, get_or-replicate}
use Rattle.std.proofs.lemmas.Bool.{cases_lt, ltb-false}
use Rattle.sets.proofs.Bits.{member_past}
use Rattle.calls.specs.declared.badge.Badge.{Badge}
use Rattle.calls.specs.Kept.{standing_of}
use Rattle.calls.specs.Standing.{nothing_yet}
use Rattle.calls.proofs.Standings.{same_standing}
use Rattle.guard.specs.Kept.{absent}

-- a badge that is not there
pub none_there : standing_of absent ≡ nothing_yet
none_there = same_standing (standing_of absent) nothing_yet refl refl (λ s. refl) (λ s r. member_past 0 0 r (omega arith) (omega arith))

-- badges that are all fresh
pub all_fresh : (n : ℕ) (x : Badge) → standing_of x ≡ nothing_yet → (b : ℕ) → standing_of (get_or (replicate n x) b absent) ≡ nothing_yet
all_fresh n x fresh b =
    ⊎_elim
    (λ (l : b < n). ap standing_of (get_or-replicate n b x absent l) ∙ fresh)
    (λ (l : n ≤ b). let m : length (replicate n x) ≤ b = simp length-replicate l in ap standing_of (get_or_past (replicate n x) b absent m) ∙ none_there)
    (cases_lt b n)

-- past the last badge there is none
pub past_fresh : (xs : List Badge) (b : ℕ) (x : Badge) → false ≡ ltb b (length xs) → standing_of x ≡ nothing_yet → standing_of x ≡ standing_of (get_or xs b absent)
past_fresh xs b x past fresh = fresh ∙ sym (ap standing_of (get_or_past xs b absent (ltb-false b (length xs) (sym past))) ∙ none_there)
