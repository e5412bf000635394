-- `first_overlap`: a loop that ends has found nothing of its level; the first hit is the first at each of the three.
use Rattle.std.proofs.Common.{◌≡◌, ℕ, ◌<◌, true, Some, None, is_some, Option, length, sym, ap, ◌∙◌, arith, rules}
use Rattle.std.specs.Result.{result_err}
use Rattle.sets.specs.Bounds.{first_of}
use Rattle.sets.proofs.Bounds.{first_more, first_here}
use Rattle.policy.specs.Policies.{says}
use Rattle.checks.specs.Faults.{overlap, overlaps, all_overlaps}
use Rattle.checks.specs.Cases.{of_case}
use Rattle.checks.proofs.search.Case.first_overlap.Goals as goal

pub loop-l-preserved : goal.loop-l-preserved
loop-l-preserved c =
    let i = c.loop-e.invariant in
    let done : c.args.self.survey.now.count ≡ c.loop-e.e = omega arith in
    (i.0, i.1, first_more (of_case overlaps c.args.self c.search.s) c.loop-l.l i.2 (ap (λ n. first_of n (of_case overlap c.args.self c.search.s c.loop-l.l)) done ∙ i.3))

pub search-preserved : goal.search-preserved
search-preserved c =
    let i = c.loop-l.invariant in
    let done : c.args.self.survey.now.count ≡ c.loop-l.l = omega arith in
    (i.0, first_more (of_case all_overlaps c.args.self) c.search.s i.1 (ap (λ n. first_of n (of_case overlaps c.args.self c.search.s)) done ∙ i.2))

-- the first hit is what the search finds
first_at : {X : Type 0} (f : ℕ → Option X) (i n : ℕ) (o : Option X) → i < n → first_of i f ≡ None → o ≡ f i → is_some o ≡ true → o ≡ first_of n f
first_at f i n (Some x) l e h some = sym (first_here f i n x l e (sym h))
first_at f i n None l e h some = cc

pub returns-then-is_err : goal.returns-then-is_err
returns-then-is_err c =
    let i = c.loop-e.invariant in
    let count = c.args.self.survey.now.count in
    let r = c.overlap-found.result in
    let some : is_some (result_err r) ≡ true = search rules in
    let hit = first_at (of_case overlap c.args.self c.search.s c.loop-l.l) c.loop-e.e count (result_err r) (omega arith) i.3 c.overlap-found.ensures some in
    let at_l = first_at (of_case overlaps c.args.self c.search.s) c.loop-l.l count (result_err r) (omega arith) i.2 hit some in
    first_at (of_case all_overlaps c.args.self) c.search.s (length (says c.args.self.policy.now).schemas) (result_err r) (omega arith) i.1 at_l some
