-- `table`: each entry is what one call gathered, and there is none past the last.
use Rattle.std.proofs.Common.{◌≡◌, ◌<◌, ◌≤◌, ℕ, Bool, ◌&&◌, ltb, sym, ap, ◌∙◌, ⊎_elim, arith, rules}
use Rattle.std.proofs.lemmas.Bool.{cases_lt, lt-ltb, le-ltb}
use Rattle.sets.specs.declared.Set64.{Set64}
use Rattle.sets.specs.Member.{member}
use Rattle.sets.proofs.Entries.{cell_past}
use Rattle.search.specs.Tests.{AnswersBy}
use Rattle.rights.proofs.Calls.{each_call}
use Rattle.rights.proofs.table.table.Goals as goal

pub returns : goal.returns
returns g c f h i j =
    let rest = ltb j 64 && f i j in
    let Row : ℕ → Set64 → Type 0 = λ k s. (p : ℕ → Bool) → AnswersBy 64 (goal.F-post g c.args.related k) p → (m : ℕ) → member s.bits m ≡ (ltb m 64 && p m) in
    ⊎_elim
    (λ (l : i < 64). each_call _ _ c.from_fn.result (record { bits = 0 }) Row (λ k y q e. search (rules, e.met.1)) 64 c.from_fn.ensures.items i l (f i) (λ k b u answer. h i k b l u answer) j ∙ sym (ap (λ (b : Bool). b && rest) (lt-ltb i 64 l)))
    (λ (l : 64 ≤ i). cell_past c.from_fn.result i j (omega (arith, c.from_fn.ensures.items.long)) ∙ sym (ap (λ (b : Bool). b && rest) (le-ltb i 64 l)))
    (cases_lt i 64)
