-- What asking answers.
use Rattle.std.proofs.Common.{◌≡◌, ℕ, ◌<◌, true, false, ◌||◌, ltb, leb, length, Some, None, Ok, Option, refl, ⊎_elim}
use Rattle.std.proofs.lemmas.Bool.{cases_Bool, and_parts, and_from, lt-leb, false≢true}
use Rattle.sets.specs.Bounds.{lowest, some}
use Rattle.sets.proofs.Bounds.{lowest_passes, some_here}
use Rattle.sealing.specs.Ground.{Ground}
use Rattle.sealing.specs.Located.{bears, where_at, held}
use Rattle.calls.specs.declared.call.Event.TheVariants.{Ask}
use Rattle.calls.specs.declared.call.Reply.TheVariants.{Granted}
use Rattle.calls.specs.Standing.{Standing, session_count}
use Rattle.history.specs.Questions.{at_position, is_enabled, is_patient, serves, serves_patient, grants}
use Rattle.history.specs.Replies.{reply}
use Rattle.history.specs.Laws.{call}

module _ (g : Ground) where
  patient_when : (o : Option (ℕ × ℕ)) (m r : ℕ) → held g r (at_position o None (λ x y. where_at g r x y m)) ≡ true → at_position o false (λ _ _. bears g r m) ≡ true
  patient_when None m r h = h
  patient_when (Some p) m r h =
      ⊎_elim
      (λ (e : bears g r m ≡ true). e)
      (λ (e : bears g r m ≡ false). absurd (false≢true (rw e at h)))
      (cases_Bool (bears g r m))

  -- an enabled role bears the misses
  pub enabled_patient : (st : Standing) (r : ℕ) → is_enabled g st r ≡ true → is_patient g st r ≡ true
  enabled_patient st r h = patient_when st.position st.misses r h

  -- where nothing is wrong with badge, session and right, the lowest-numbered role that grants is named
  pub granted_reply : (st : Standing) (b s operation object r : ℕ) → b < g.content.badges → s < session_count → st.opened s ≡ true → (ltb 15 operation || ltb 255 object) ≡ false → lowest (length g.content.roles) (grants g st s operation object) ≡ Some r → reply g st (call b (Ask s operation object)) ≡ Ok (Granted r)
  granted_reply st b s operation object r known within opened right found =
      let n = length g.content.roles in
      let at = lowest_passes (grants g st s operation object) n r found in
      let both = and_parts (serves g st s operation object r) (is_enabled g st r) at.0 in
      let t11 : some n (serves g st s operation object) ≡ true = some_here _ r _ at.1 both.0 in
      let t12 : some n (serves_patient g st s operation object) ≡ true = some_here _ r _ at.1 (and_from _ _ both.0 (enabled_patient st r both.1)) in
      let t13 : some n (grants g st s operation object) ≡ true = some_here _ r _ at.1 at.0 in
      let t1 : leb g.content.badges b ≡ false = lt-leb _ _ known in
      let t2 : leb session_count s ≡ false = lt-leb _ _ within in
      rw (t1, t2, opened, right, t11, t12, t13, found) refl
