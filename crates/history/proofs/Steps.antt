-- What one accepted call more does to how a badge stands.
use Rattle.std.proofs.Common.{◌≡◌, ℕ, suc, Bool, true, false, cond, ◌&&◌, eqb, List, ◌∷◌, Some, None, Option, unwrap_or, refl, ap, ◌∙◌, arith}
use Rattle.std.specs.Option.{option_or}
use Rattle.calls.specs.declared.call.Call.{Call}
use Rattle.calls.specs.declared.call.Event.{Event}
use Rattle.calls.specs.declared.call.Event.TheVariants.{Report, Miss, Open, Close, Activate, Drop, Where, Enabled, Roles, Ask}
use Rattle.calls.specs.Standing.{Standing, moved, one_more}
use Rattle.history.specs.History.{standing, latest, of, position, missed_since, at_most, says_open, says_active, says_position, counted}
use Rattle.calls.proofs.Standings.{same_standing}

said : (t v : Bool) (o : Option Bool) → unwrap_or (option_or (cond t (Some v) None) o) false ≡ cond t v (unwrap_or o false)
said true v o = refl
said false v o = refl

missed : (p : Option (ℕ × ℕ)) (n : ℕ) → at_most p (suc n) ≡ one_more p (at_most p n)
missed None n = refl
missed (Some p) n = omega arith

module _ (b : ℕ) (c : Call) (calls : List Call) where
  skip : {A : Type 0} (says : Event → Option A) → eqb c.badge b ≡ false → latest (of b says) (c ∷ calls) ≡ latest (of b says) calls
  skip says e = rw e refl

  skip_missed : eqb c.badge b ≡ false → missed_since (c ∷ calls) b ≡ missed_since calls b
  skip_missed e = rw e refl

  -- a call of another badge changes nothing
  pub other : eqb c.badge b ≡ false → standing (c ∷ calls) b ≡ standing calls b
  other e =
      same_standing (standing (c ∷ calls) b) (standing calls b)
      (skip says_position e)
      (ap (λ p. at_most p (missed_since (c ∷ calls) b)) (skip says_position e) ∙ ap (at_most (position calls b)) (skip_missed e))
      (λ s. ap (λ o. unwrap_or o false) (skip (says_open s) e))
      (λ s r. ap (λ o. unwrap_or o false) (skip (says_active s r) e))

  take : {A : Type 0} (says : Event → Option A) → eqb c.badge b ≡ true → latest (of b says) (c ∷ calls) ≡ option_or (says c.event) (latest (of b says) calls)
  take says e = rw e refl

  take_missed : eqb c.badge b ≡ true → missed_since (c ∷ calls) b ≡ counted c.event (missed_since calls b)
  take_missed e = rw e refl

  -- the standing with what the event says put before what was said
  added : Standing
  added = record {
    position = option_or (says_position c.event) (position calls b);
    misses = at_most (option_or (says_position c.event) (position calls b)) (counted c.event (missed_since calls b));
    opened = λ s. unwrap_or (option_or (says_open s c.event) (latest (of b (says_open s)) calls)) false;
    active = λ s r. unwrap_or (option_or (says_active s r c.event) (latest (of b (says_active s r)) calls)) false;
  }

  is_added : eqb c.badge b ≡ true → standing (c ∷ calls) b ≡ added
  unfolding added
  is_added e =
      same_standing (standing (c ∷ calls) b) added
      (take says_position e)
      (ap (λ p. at_most p (missed_since (c ∷ calls) b)) (take says_position e) ∙ ap (at_most (option_or (says_position c.event) (position calls b))) (take_missed e))
      (λ s. ap (λ o. unwrap_or o false) (take (says_open s) e))
      (λ s r. ap (λ o. unwrap_or o false) (take (says_active s r) e))

module _ (b a : ℕ) (calls : List Call) where
  adds : (e : Event) → added b (record { badge = a; event = e }) calls ≡ moved e (standing calls b)
  unfolding added
  adds (Report p) = refl
  adds Miss = same_standing _ _ refl (missed (position calls b) (missed_since calls b)) (λ _. refl) (λ _ _. refl)
  adds (Open s) = same_standing _ _ refl refl (λ k. said (eqb s k) true _) (λ _ _. refl)
  adds (Close s) = same_standing _ _ refl refl (λ k. said (eqb s k) false _) (λ k q. said (eqb s k) false _)
  adds (Activate s r) = same_standing _ _ refl refl (λ _. refl) (λ k q. said (eqb s k && eqb r q) true _)
  adds (Drop s r) = same_standing _ _ refl refl (λ _. refl) (λ k q. said (eqb s k && eqb r q) false _)
  adds (Where r) = refl
  adds (Enabled r) = refl
  adds (Roles s) = refl
  adds (Ask s operation object) = refl

-- a call of the badge moves its standing
pub own : (b : ℕ) (c : Call) (calls : List Call) → eqb c.badge b ≡ true → standing (c ∷ calls) b ≡ moved c.event (standing calls b)
own b c calls e = is_added b c calls e ∙ adds b c.badge calls c.event
