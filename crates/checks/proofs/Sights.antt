-- A survey that is tied to a hall shows what the hall says, and the sight of a hall what its places are.
use Rattle.std.proofs.Common.{◌≡◌, ℕ, ◌<◌, Bool, not, ◌&&◌, ◌||◌, length, ap, ◌∙◌}
use Rattle.sets.proofs.Bounds.{some_same, every_same}
use Rattle.plan.specs.Hall.{Hall}
use Rattle.plan.specs.Lying.{lies_in, of_type, lies_in_some}
use Rattle.survey.specs.declared.Survey.{Survey}
use Rattle.survey.specs.Kept.{Tied, is_type}
use Rattle.survey.proofs.Types.{type_in_use}
use Rattle.policy.specs.Contents.{Content}
use Rattle.checks.specs.Sight.{Sight, sight_of, kept, is_of, in_some}
use Rattle.checks.specs.Faults.{first_fault}
use Rattle.checks.specs.Laws.{SomeSays, TypesSay}

module _ (h : Hall) (s : Survey) (tied : Tied h s) where
  -- the two sights agree at every number, so they are one
  pub one_sight : kept s ≡ sight_of h
  one_sight = λ i. record {
    count = tied.count i;
    types = λ p. tied.types p i;
    point = λ p. tied.points p i;
    lies = λ p q. tied.lies p q i;
    shares = λ p q. tied.shares p q i;
  }

  -- and so is the first fault
  pub one_fault : (c : Content) → first_fault (kept s) c ≡ first_fault (sight_of h) c
  one_fault c = ap (λ (v : Sight). first_fault v c) one_sight

-- a number in use has the type of its place
of_says : (h : Hall) (t p : ℕ) → p < length h.places → is_of (sight_of h) t p ≡ of_type h t p
of_says h t p l = ap (is_type t) (type_in_use h p l)

pub some_says : SomeSays
some_says h t p =
    some_same (length h.places) (λ q. is_of (sight_of h) t q && lies_in h p q) (λ q. of_type h t q && lies_in h p q)
    (λ q l. ap (λ (b : Bool). b && lies_in h p q) (of_says h t q l))

pub types_say : TypesSay
types_say h t u =
    every_same (length h.places) (λ p. not (is_of (sight_of h) t p) || in_some (sight_of h) u p) (λ p. not (of_type h t p) || lies_in_some h u p)
    (λ p l. ap (λ (b : Bool). not b || in_some (sight_of h) u p) (of_says h t p l) ∙ ap (λ (b : Bool). not (of_type h t p) || b) (some_says h u p))
