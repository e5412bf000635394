-- What a reading gives, and what it leaves where it is refused.
use Rattle.std.proofs.Common.{◌≡◌, ℕ, true, false, is_ok, Ok, Err, Result, ap, arith}
use Rattle.wordlist.specs.declared.faults.RecordFault.{RecordFault}
use Rattle.wordlist.specs.Outcomes.{given, answered, replaced}
use Rattle.wordlist.specs.Reading.{Answer}

module _ {S X : Type 0} (wanted : S → X) where
  -- the state d and the answer a of a reading that gives r
  pub given_answers : (d : S) (a : Answer) (r : Result X RecordFault) → given wanted (d, a) ≡ r → a ≡ answered r
  given_answers d (Ok u) r e = ap answered e
  given_answers d (Err f) r e = ap answered e

  pub given_takes : (d : S) (a : Answer) (r : Result X RecordFault) (old : X) → is_ok a ≡ true → given wanted (d, a) ≡ r → wanted d ≡ replaced old r
  given_takes d (Ok u) r old ok e = ap (replaced old) e
  given_takes d (Err f) r old ok e = absurd (let z : ◌≡◌ {A = ℕ} 0 1 = cc in omega arith)

  pub given_leaves : (d : S) (a : Answer) (r : Result X RecordFault) (old : X) → is_ok a ≡ false → given wanted (d, a) ≡ r → old ≡ replaced old r
  given_leaves d (Ok u) r old ok e = absurd (let z : ◌≡◌ {A = ℕ} 0 1 = cc in omega arith)
  given_leaves d (Err f) r old ok e = ap (replaced old) e
