-- Which number is the lowest that passes.
use Rattle.std.proofs.Common.{◌≡◌, ℕ, ◌<◌, Bool, true, false, Some, sym, ap, ◌∙◌, ⊎_elim, arith}
use Rattle.std.proofs.lemmas.Bool.{cases_eq, cases_lt, true≢false}
use Rattle.sets.specs.Bounds.{when, lowest}
use Rattle.sets.proofs.Bounds.{first_lowest, when_some, when_none, lowest_passes, lowest_at}

-- nothing lower passes
pub lowest_first : (p : ℕ → Bool) (n k : ℕ) → lowest n p ≡ Some k → (q : ℕ) → q < k → p q ≡ false
lowest_first p n k e q lt =
    let at = first_lowest (λ i. when (p i) i) n k e in
    let here = when_some (p at.0) at.0 k at.2 in
    when_none (p q) q (at.3 q (omega (arith, here.1)))

-- one that passes, where nothing lower does
pub lowest_is : (p : ℕ → Bool) (n k : ℕ) → k < n → p k ≡ true → ((q : ℕ) → q < k → p q ≡ false) → lowest n p ≡ Some k
lowest_is p n k lt h lower =
    let at = lowest_at p n k lt h in
    let m = at.0 in
    let here = lowest_passes p n m at.1 in
    let same : m ≡ k = ⊎_elim
    (λ (e : m ≡ k). e)
    (λ (ne : m ≡ k → ⊥). ⊎_elim
    (λ (l : m < k). absurd (true≢false (sym here.0 ∙ lower m l)))
    (λ l. absurd (true≢false (sym h ∙ lowest_first p n m at.1 k (omega (arith, ne, l)))))
    (cases_lt m k))
    (cases_eq m k) in
    at.1 ∙ ap Some same
