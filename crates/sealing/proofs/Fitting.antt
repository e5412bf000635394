-- A sealed policy fits its hall.
use Rattle.std.proofs.Common.{◌≡◌, ℕ, ◌<◌, Bool, true, false, not, ◌&&◌, length, Some, None, Option, sym, refl, ap, ◌∙◌, ⊎_elim}
use Rattle.std.specs.Option.{option_or}
use Rattle.std.proofs.lemmas.Bool.{not-false, and_parts, and_from, and_cases, both_ways, eqb-true, eq-eqb, ltb-false, false≢true}
use Rattle.sets.specs.Bounds.{first_of}
use Rattle.sets.proofs.Bounds.{first_none, when_none}
use Rattle.plan.specs.Hall.{Hall, type_at}
use Rattle.plan.specs.Lying.{lies_in, shares}
use Rattle.survey.specs.Kept.{is_type}
use Rattle.survey.proofs.Types.{in_use, some_means, types_mean}
use Rattle.policy.specs.Contents.{Content, schema_at}
use Rattle.checks.specs.declared.faults.SealFault.{SealFault}
use Rattle.checks.specs.Sight.{sight_of, is_of, in_some, type_within}
use Rattle.checks.specs.Faults.{child_of, parent_of, empty, misplaced, outside, outsides, overlap, overlaps, all_overlaps, unlike, impatient, first_fault}
use Rattle.checks.proofs.Sights.{some_says, types_say}
use Rattle.sealing.specs.Laws.{TypeLies, Fits, SealedFits}
use Rattle.sealing.proofs.Reading.{sealing_clear}

-- two searches that find nothing
nothing : (o u : Option SealFault) → option_or o u ≡ None → (o ≡ None) × (u ≡ None)
nothing None u e = (refl, e)
nothing (Some f) u e = (cc, cc)

-- to be of type t is to have it
pub typed : (o : Option ℕ) (t : ℕ) → is_type t o ≡ true → o ≡ Some t
typed None t h = absurd (false≢true h)
typed (Some u) t h = ap Some (eqb-true u t h)

pub is_typed : (o : Option ℕ) (t : ℕ) → o ≡ Some t → is_type t o ≡ true
is_typed o t e = ap (is_type t) e ∙ eq-eqb t t refl

-- what holds where its denial was refused
implied : (a b : Bool) → (a && not b) ≡ false → a ≡ true → b ≡ true
implied true b h e = not-false b h
implied false b h e = absurd (false≢true e)

module _ (h : Hall) (c : Content) where
  -- the tests of the sight, in words of the hall
  lies_in_one : (t p : ℕ) → in_some (sight_of h) t p ≡ true → (q : ℕ) × (type_at h q ≡ Some t) × (lies_in h p q ≡ true)
  lies_in_one t p e = (some_means h t p).0 (sym (some_says h t p) ∙ e)

  types_lie_in : (t u : ℕ) → type_within (sight_of h) t u ≡ true → TypeLies h t u
  types_lie_in t u e = (types_mean h t u).0 (sym (types_say h t u) ∙ e)

  -- where no check finds a fault, the policy fits
  pub fits_from : first_fault (sight_of h) c ≡ None → Fits h c
  fits_from clear =
      let v = sight_of h in
      let a = nothing (first_of (length h.places) (empty v c)) _ clear in
      let b = nothing (first_of (length c.roles) (misplaced v c)) _ a.1 in
      let d = nothing (first_of (length c.schemas) (outsides v c)) _ b.1 in
      let e = nothing (first_of (length c.schemas) (all_overlaps v c)) _ d.1 in
      let f = nothing (first_of (length c.parents) (unlike v c)) _ e.1 in
      let types : (k : ℕ) → k < length c.parents → (type_within v (child_of c k).extent (parent_of c k).extent ≡ true) × (type_within v (child_of c k).logic (parent_of c k).logic ≡ true)
      = λ k l. and_parts _ _ (not-false _ (when_none _ _ (first_none (unlike v c) (length c.parents) f.0 k l))) in
      record {
        points = λ p l. not-false _ (when_none _ _ (first_none (empty v c) (length h.places) a.0 p l));
        extents = λ r l. typed _ _ (not-false _ (when_none _ _ (first_none (misplaced v c) (length c.roles) b.0 r l)));
        located = λ s l p is.
            lies_in_one (schema_at c s).extent p
            (implied _ _ (when_none _ _ (first_none (outside v c s) (length h.places) (first_none (outsides v c) (length c.schemas) d.0 s l) p (in_use h p _ is))) (is_typed _ _ is));
        whole = λ s i j l is-i is-j both.
            let clean : overlap v c s i j ≡ None
            = first_none (overlap v c s i) (length h.places) (first_none (overlaps v c s) (length h.places) (first_none (all_overlaps v c) (length c.schemas) e.0 s l) i (in_use h i _ is-i)) j (in_use h j _ is-j) in
            ⊎_elim
            (λ (z : (is_of v (schema_at c s).logic i && is_of v (schema_at c s).extent j) ≡ false). absurd (both_ways _ z (and_from _ _ (is_typed _ _ is-i) (is_typed _ _ is-j))))
            (λ (z : (shares h i j && not (lies_in h i j)) ≡ false). implied (shares h i j) (lies_in h i j) z both)
            (and_cases (is_of v (schema_at c s).logic i && is_of v (schema_at c s).extent j) (shares h i j && not (lies_in h i j)) (when_none _ _ clean));
        extent_types = λ k l. types_lie_in _ _ (types k l).0;
        logic_types = λ k l. types_lie_in _ _ (types k l).1;
        patience = λ k l. ltb-false (parent_of c k).patience (child_of c k).patience (when_none _ _ (first_none (impatient v c) (length c.parents) f.1 k l));
      }

pub sealed_fits : SealedFits
sealed_fits h ws c sealed = fits_from h c (sealing_clear h ws c sealed)
