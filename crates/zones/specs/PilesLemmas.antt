-- Zones piled on places: which place has which number, and what it covers.
use Rattle.std.specs.Prelude.{◌≡◌, ℕ, zero, suc, ◌+◌, ◌-◌, ◌<◌, ◌≤◌, min, Bool, false, cond, ◌&&◌, ◌⊎◌, List, [], ◌∷◌, length, get_or, take, Some, None, slice_index_or, refl}
use Rattle.std.proofs.Common.{⊎_elim, sym, ◌∙◌, ap, arith, length-take}
use Rattle.std.proofs.lemmas.List.{length_push, get_or_push, get_or_append_left, get_or_past, get_or-take}
use Rattle.std.proofs.lemmas.Bool.{lt-ltb, le-ltb, cases_lt}
use Rattle.plan.specs.Hall.{Hall, Place, nowhere, on_floor, type_at, covers_at, most_places}
use Rattle.plan.proofs.Rows.{covers_past, covers_off, covers_on}
use Rattle.sets.proofs.Filled.{Filled, filled_from}
use Rattle.sets.specs.Member.{member}
use Rattle.zones.specs.declared.zone.Zone.{Zone}
use Rattle.zones.specs.declared.zone.Rule.{Rule}
use Rattle.zones.specs.Piles.{in_zone, zone_place, add_zone, zones_over, in_use, zone_hall}

pub over_length : (ps : List Place) (zs : List Zone) → length (zones_over ps zs) ≡ length ps + length zs
over_length ps [] = omega arith
over_length ps (z ∷ zs) = omega (arith, over_length (add_zone ps z) zs, length_push ps (zone_place ps z))

-- the places below keep their numbers
pub over_low : (ps : List Place) (zs : List Zone) (k : ℕ) → k < length ps → slice_index_or (zones_over ps zs) k nowhere ≡ slice_index_or ps k nowhere
over_low ps [] k h = refl
over_low ps (z ∷ zs) k h =
    over_low (add_zone ps z) zs k (omega (arith, length_push ps (zone_place ps z))) ∙ get_or_append_left ps (zone_place ps z ∷ []) nowhere k h

-- zone i, over the places and the zones of lower numbers
pub over_zone : (ps : List Place) (zs : List Zone) (i k : ℕ) (d : Zone) → i < length zs → length ps + i ≡ k → slice_index_or (zones_over ps zs) k nowhere ≡ zone_place (zones_over ps (take i zs)) (slice_index_or zs i d)
over_zone ps [] i k d h e = absurd (omega arith)
over_zone ps (z ∷ zs) zero k d h e =
    over_low (add_zone ps z) zs k (omega (arith, length_push ps (zone_place ps z))) ∙ get_or_push ps (zone_place ps z) nowhere k (omega arith)
over_zone ps (z ∷ zs) (suc i) k d h e = over_zone (add_zone ps z) zs i k d (omega arith) (omega (arith, length_push ps (zone_place ps z)))

-- the first zones give the first places
pub over_front : (ps : List Place) (zs : List Zone) (i k : ℕ) → i ≤ length zs → k < length ps + i → slice_index_or (zones_over ps zs) k nowhere ≡ slice_index_or (zones_over ps (take i zs)) k nowhere
over_front ps zs zero k l h = over_low ps zs k (omega arith)
over_front ps [] (suc i) k l h = refl
over_front ps (z ∷ zs) (suc i) k l h = over_front (add_zone ps z) zs i k (omega arith) (omega (arith, length_push ps (zone_place ps z)))

pub in_use_length : (n : ℕ) (zs : List Zone) → length (in_use n zs) ≡ min (most_places - n) (length zs)
in_use_length n zs = length-take (most_places - n) zs

pub hall_length : (h : Hall) (zs : List Zone) → length h.places ≤ most_places → length (zone_hall h zs).places ≡ min (length h.places + length zs) most_places
hall_length h zs l = omega (arith, over_length h.places (in_use (length h.places) zs), in_use_length (length h.places) zs)

same_zone : (r : Rule) (f g : ℕ → Bool) → ((k : ℕ) → f k ≡ g k) → in_zone r f ≡ in_zone r g
same_zone r f g e = ap (in_zone r) (λ i k. e k i)

module _ (h : Hall) (zs : List Zone) (few : length h.places ≤ most_places) where
  pub type_low : (k : ℕ) → k < length h.places → type_at h k ≡ type_at (zone_hall h zs) k
  type_low k l =
      let m : k < length (zone_hall h zs).places = omega (arith, hall_length h zs few) in
      rw (lt-ltb k (length h.places) l, lt-ltb k (length (zone_hall h zs).places) m, over_low h.places (in_use (length h.places) zs) k l)

  -- place k is zone i in use, where z is what is found at i
  pub zone_in_use : (i k : ℕ) (z d : Zone) → length h.places + i ≡ k → i < length (in_use (length h.places) zs) → z ≡ slice_index_or (in_use (length h.places) zs) i d → slice_index_or (zone_hall h zs).places k nowhere ≡ zone_place (zones_over h.places (take i (in_use (length h.places) zs))) z
  zone_in_use i k z d e within read =
      let us = in_use (length h.places) zs in
      over_zone h.places us i k d within e ∙ ap (zone_place (zones_over h.places (take i us))) (sym read)

  pub type_in_use : (i k : ℕ) (z : Zone) → length h.places + i ≡ k → i < length (in_use (length h.places) zs) → z ≡ slice_index_or (in_use (length h.places) zs) i z → Some z.ty ≡ type_at (zone_hall h zs) k
  type_in_use i k z e within read =
      let l : k < length (zone_hall h zs).places = omega (arith, over_length h.places (in_use (length h.places) zs)) in
      rw (lt-ltb k (length (zone_hall h zs).places) l, zone_in_use i k z z e within read)

  pub type_past : (i k : ℕ) → length h.places + i ≡ k → length (in_use (length h.places) zs) ≤ i → None ≡ type_at (zone_hall h zs) k
  type_past i k e past =
      let l : length (zone_hall h zs).places ≤ k = omega (arith, over_length h.places (in_use (length h.places) zs)) in
      rw (le-ltb k (length (zone_hall h zs).places) l) refl

  -- before the first zone, the set has the places below
  pub row_below : (x y s : ℕ) → ((k : ℕ) → member s k ≡ covers_at h k x y) → Filled (λ j. covers_at (zone_hall h zs) j x y) (length h.places) s
  row_below x y s e =
      filled_from (λ j. covers_at (zone_hall h zs) j x y) (length h.places) s
      (λ j low. e j ∙ sym (ap (λ (p : Place). on_floor h x y && p.covers x y) (over_low h.places (in_use (length h.places) zs) j low)))
      (λ j high. e j ∙ covers_past h x y j high)

  -- one zone more
  pub row_in_use : (i k x y : ℕ) (us : List Zone) (d : Zone) (s : ℕ) → x < h.width → y < h.height → length h.places + i ≡ k → us ≡ in_use (length h.places) zs → i < length us → Filled (λ j. covers_at (zone_hall h zs) j x y) k s → in_zone (slice_index_or us i d).rule (member s) ≡ covers_at (zone_hall h zs) k x y
  row_in_use i k x y vs d s across down e same there filled =
      let us = in_use (length h.places) zs in
      let z = slice_index_or vs i d in
      let within : i < length us = omega (arith, there, ap length same) in
      same_zone z.rule (member s) (λ j. (get_or (zones_over h.places (take i us)) j nowhere).covers x y)
      (λ j. filled j ∙ ⊎_elim
      (λ low. ap (λ (b : Bool). cond b (covers_at (zone_hall h zs) j x y) false) (lt-ltb j k low)
      ∙ covers_on (zone_hall h zs) j x y across down
      ∙ ap (λ (p : Place). p.covers x y) (over_front h.places us i j (omega arith) (omega arith)))
      (λ high. ap (λ (b : Bool). cond b (covers_at (zone_hall h zs) j x y) false) (le-ltb j k high)
      ∙ sym (ap (λ (p : Place). p.covers x y) (get_or_past (zones_over h.places (take i us)) j nowhere (omega (arith, over_length h.places (take i us), length-take i us)))))
      (cases_lt j k))
      ∙ sym (covers_on (zone_hall h zs) k x y across down ∙ ap (λ (p : Place). p.covers x y) (zone_in_use i k z d e within (ap (λ v. slice_index_or v i d) same)))

  -- the same of what the whole list has at i
  within_use : (i k : ℕ) → length h.places + i ≡ k → k < length (zone_hall h zs).places → i < length (in_use (length h.places) zs)
  within_use i k e l = omega (arith, over_length h.places (in_use (length h.places) zs))

  read_use : (i : ℕ) (z : Zone) → i < length (in_use (length h.places) zs) → z ≡ slice_index_or zs i z → z ≡ slice_index_or (in_use (length h.places) zs) i z
  read_use i z within read = read ∙ sym (get_or-take (most_places - length h.places) zs i z (omega (arith, in_use_length (length h.places) zs)))

  pub zone_at : (i k : ℕ) (z : Zone) → length h.places + i ≡ k → k < length (zone_hall h zs).places → z ≡ slice_index_or zs i z → slice_index_or (zone_hall h zs).places k nowhere ≡ zone_place (zones_over h.places (take i (in_use (length h.places) zs))) z
  zone_at i k z e l read = let within = within_use i k e l in zone_in_use i k z z e within (read_use i z within read)

  pub type_zone : (i k : ℕ) (z : Zone) → length h.places + i ≡ k → k < length (zone_hall h zs).places → z ≡ slice_index_or zs i z → Some z.ty ≡ type_at (zone_hall h zs) k
  type_zone i k z e l read = let within = within_use i k e l in type_in_use i k z e within (read_use i z within read)

  pub row_zone : (i k x y : ℕ) (z : Zone) (s : ℕ) → x < h.width → y < h.height → length h.places + i ≡ k → k < length (zone_hall h zs).places → z ≡ slice_index_or zs i z → Filled (λ j. covers_at (zone_hall h zs) j x y) k s → in_zone z.rule (member s) ≡ covers_at (zone_hall h zs) k x y
  row_zone i k x y z s across down e l read filled =
      let within = within_use i k e l in
      ap (λ (v : Zone). in_zone v.rule (member s)) (read_use i z within read)
      ∙ row_in_use i k x y (in_use (length h.places) zs) z s across down e refl within filled

  -- off the floor the set is empty, with zones too
  pub row_off : (x y s : ℕ) → (h.width ≤ x) ⊎ (h.height ≤ y) → ((k : ℕ) → member s k ≡ covers_at h k x y) → (k : ℕ) → member s k ≡ covers_at (zone_hall h zs) k x y
  row_off x y s off e k = e k ∙ covers_off h k x y off ∙ sym (covers_off (zone_hall h zs) k x y off)
