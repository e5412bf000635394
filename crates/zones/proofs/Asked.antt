-- What the answer for a zone finds among the zones in use.
use Rattle.std.proofs.Common.{◌≡◌, ℕ, ◌+◌, ◌≤◌, List, length, get_or, Some, None, Option, Bor, sym, ap, ◌∙◌, arith}
use Rattle.std.specs.Slice.{IsItemAt}
use Rattle.std.specs.Option.{IsSomeAnd, MatchOption}
use Rattle.std.proofs.lemmas.Bool.{ltb-true, ltb-false}
use Rattle.plan.specs.Hall.{Hall, most_places, type_at}
use Rattle.zones.specs.declared.zone.Zone.{Zone}
use Rattle.zones.specs.Piles.{in_use, zone_hall}
use Rattle.zones.specs.PilesLemmas.{type_in_use, type_past}

-- o is what is found at i, and Q what the call at it gives
pub type_asked : (h : Hall) (zs : List Zone) → length h.places ≤ most_places → (us : List Zone) (i k : ℕ) (Q : Bor Zone → ℕ → Type 0) (o : Option (Bor Zone)) (r : Option ℕ) → length h.places + i ≡ k → us ≡ in_use (length h.places) zs → IsItemAt us i o → MatchOption o (r ≡ None) (λ p. IsSomeAnd r (Q p)) → ((p : Bor Zone) (t : ℕ) → Q p t → t ≡ p.now.ty) → r ≡ type_at (zone_hall h zs) k
type_asked h zs few us i k Q (Some p) (Some t) e same at m q =
    let there = ltb-true _ _ (sym at.0) in
    ap Some (q p t m) ∙ type_in_use h zs few i k p.now e (omega (arith, there, ap length same)) (at.1 ∙ ap (λ v. get_or v i p.now) same)
type_asked h zs few us i k Q (Some p) None e same at m q = absurd m
type_asked h zs few us i k Q None r e same at m q =
    let past = ltb-false _ _ (sym at.0) in
    m ∙ type_past h zs few i k e (omega (arith, past, ap length same))
