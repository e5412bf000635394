-- A call that is performed continues the list of calls.
use Rattle.std.proofs.Common.{◌≡◌, ℕ, true, cond, eqb, leb, Some, None, Ok, Err, Option, Result, sym, refl, ap, ◌∙◌, subst, arith}
use Rattle.plan.specs.Hall.{Hall}
use Rattle.sealing.specs.Ground.{Ground, ground_of}
use Rattle.calls.specs.declared.call.Call.{Call}
use Rattle.calls.specs.declared.call.Event.{Event}
use Rattle.calls.specs.declared.call.Event.TheVariants.{Report, Miss, Open, Close, Activate, Drop, Where, Enabled, Roles, Ask}
use Rattle.calls.specs.Answers.{Answer}
use Rattle.calls.specs.declared.call.Reply.TheVariants.{Done}
use Rattle.calls.specs.declared.refusal.Refusal.{Refusal}
use Rattle.calls.specs.declared.refusal.Refusal.TheVariants.{UnknownBadge}
use Rattle.calls.specs.Standing.{Standing, moved}
use Rattle.std.specs.Result.{result_err}
use Rattle.std.proofs.lemmas.Bool.{cond_both, le-leb, ltb-false}
use Rattle.site.specs.declared.site.Site.{Site}
use Rattle.site.specs.Kept.{ground}
use Rattle.decide.specs.Answers.{done}
use Rattle.history.specs.Following.{settled_by, settled}
use Rattle.history.specs.Laws.{call}
use Rattle.history.specs.Refusals.{refusal}
use Rattle.history.specs.Replies.{refused_or, outcome, reply}
use Rattle.history.proofs.Exactly.{exactly}
use Rattle.history.proofs.Following.{one_step}
use Rattle.guard.specs.declared.guard.Guard.{Guard}
use Rattle.guard.specs.Kept.{kept_of, ground_in}
use Rattle.guard.specs.Stands.{Performs, Continues, Grants, UnsealedRefuses, kept_after}

module _ {P : Type 0} (h : Hall) (g g' : Guard P) (e : Call) (a : Answer) where
  -- what was performed continues the calls
  pub continues : Performs h g g' e a → Continues h g g' e a
  continues done-so ws c calls st =
      let gr = ground_in h g in
      let meant = st.grounded in
      let step : (b : ℕ) → kept_of g' b ≡ cond (eqb e.badge b) (settled (ground_of h c) (kept_of g b) e) (kept_of g b)
      = λ b. done-so.kept b ∙ ap (λ (x : Ground). cond (eqb e.badge b) (settled x (kept_of g b) e) (kept_of g b)) meant in
      let next = one_step (ground_of h c) (kept_of g) (kept_of g') e step calls st.agrees in (
        done-so.answered ∙ ap (λ (x : Ground). reply x (kept_of g e.badge) e) meant ∙ next.0,
        record { sealed = st.sealed; grounded = ap (λ (s : Site P). ground h s) done-so.site ∙ meant; agrees = next.1 },
      )

module _ {P : Type 0} (h : Hall) (g g' : Guard P) (b : ℕ) (e : Event) where
  -- the answer to an event that tells something is done or refused
  told : (o : Option Refusal) (r : Result (Unit {0}) Refusal) → result_err r ≡ o → done r ≡ refused_or o (Ok Done)
  told None (Ok u) is = refl
  told (Some n) (Err m) is = let same : m ≡ n = cc in ap Err same
  told None (Err m) is = absurd (let z : ◌≡◌ {A = ℕ} 0 1 = cc in omega arith)
  told (Some n) (Ok u) is = absurd (let z : ◌≡◌ {A = ℕ} 0 1 = cc in omega arith)

  tells : (r : Result (Unit {0}) Refusal) → outcome (ground_in h g) (kept_of g b) e ≡ Ok Done → result_err r ≡ refusal (ground_in h g) (kept_of g b) (call b e) → g'.site ≡ g.site → ((d : ℕ) → kept_of g' d ≡ kept_after h g (call b e) d) → Performs h g g' (call b e) (done r)
  tells r plain refused site kept = record {
    answered = told (refusal (ground_in h g) (kept_of g b) (call b e)) r refused ∙ sym (ap (refused_or (refusal (ground_in h g) (kept_of g b) (call b e))) plain);
    site = site;
    kept = kept;
  }

  -- and the calls go on
  pub tells_on : (r : Result (Unit {0}) Refusal) → outcome (ground_in h g) (kept_of g b) e ≡ Ok Done → result_err r ≡ refusal (ground_in h g) (kept_of g b) (call b e) → g'.site ≡ g.site → ((d : ℕ) → kept_of g' d ≡ kept_after h g (call b e) d) → Performs h g g' (call b e) (done r) × Continues h g g' (call b e) (done r)
  tells_on r plain refused site kept = let so = tells r plain refused site kept in (so, continues h g g' (call b e) (done r) so)

module _ {P : Type 0} (h : Hall) (g : Guard P) (e : Call) (a : Answer) where
  -- a question changes nothing
  asks : ((st : Standing) → moved e.event st ≡ st) → a ≡ reply (ground_in h g) (kept_of g e.badge) e → Performs h g g e a
  asks still answered = record {
    answered = answered;
    site = refl;
    kept = λ b. sym (cond_both (eqb e.badge b) (settled (ground_in h g) (kept_of g b) e) (kept_of g b) (λ st. st ≡ kept_of g b) (λ _. unmoved (refusal (ground_in h g) (kept_of g b) e) (kept_of g b)) (λ _. refl));
  }
    where
      unmoved : (o : Option Refusal) (st : Standing) → settled_by o e.event st ≡ st
      unmoved None st = still st
      unmoved (Some n) st = refl

  -- and the calls go on
  pub asks_on : ((st : Standing) → moved e.event st ≡ st) → a ≡ reply (ground_in h g) (kept_of g e.badge) e → Performs h g g e a × Continues h g g e a
  asks_on still answered = let so = asks still answered in (so, continues h g g e a so)

module _ {P : Type 0} (h : Hall) (g : Guard P) (b s operation object : ℕ) (a : Answer) where
  -- asking grants exactly by the lowest-numbered role that serves
  pub grants_so : Performs h g g (call b (Ask s operation object)) a → Grants h g b s operation object a
  grants_so done-so ws c calls st r =
      let is = (continues h g g (call b (Ask s operation object)) a done-so ws c calls st).0 in
      let law = exactly (ground_of h c) calls b s operation object r in
      record { to = λ q. law.only_if (sym is ∙ q); from = λ v. is ∙ law.when v }

-- a badge that is not known is refused, whatever is told or asked of it
unknown_reply : (g : Ground) (st : Standing) (b : ℕ) (e : Event) → leb g.content.badges b ≡ true → reply g st (call b e) ≡ Err UnknownBadge
unknown_reply g st b (Report p) past = rw past
unknown_reply g st b Miss past = rw past
unknown_reply g st b (Open s) past = rw past
unknown_reply g st b (Close s) past = rw past
unknown_reply g st b (Activate s r) past = rw past
unknown_reply g st b (Drop s r) past = rw past
unknown_reply g st b (Where r) past = rw past
unknown_reply g st b (Enabled r) past = rw past
unknown_reply g st b (Roles s) past = rw past
unknown_reply g st b (Ask s operation object) past = rw past

module _ {P : Type 0} (h : Hall) (g g' : Guard P) (e : Call) where
  -- the same of a call that is given as a value
  pub as_call : (v : Event) (a d : Answer) → e.event ≡ v → a ≡ d → Performs h g g' (call e.badge v) d → Performs h g g' e a × Continues h g g' e a × UnsealedRefuses h g a
  as_call v a d is same done-so =
      let whole : call e.badge v ≡ e = λ i. call e.badge (sym is i) in
      let so : Performs h g g' e a = subst (λ x. Performs h g g' x a) whole (subst (λ x. Performs h g g' (call e.badge v) x) (sym same) done-so) in
      (so, continues h g g' e a so, λ none. so.answered ∙ unknown_reply (ground_in h g) (kept_of g e.badge) e.badge e.event (le-leb _ _ (omega (arith, ltb-false 0 (ground_in h g).content.badges none))))
