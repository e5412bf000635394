-- `policy`: a policy is accepted where something was read.
use Rattle.std.proofs.Common.{◌≡◌, ℕ, List, is_ok, Ok, Err, Result, refl, ap, ◌∙◌}
use Rattle.wordlist.specs.declared.faults.RecordFault.{RecordFault}
use Rattle.policy.specs.Contents.{Content}
use Rattle.wordlist.specs.Outcomes.{answered}
use Rattle.policy.specs.Reading.{content_from}
use Rattle.checking.proofs.sections.Report.policy.Goals as goal

same_ok : (r : Result Content RecordFault) → is_ok (answered r) ≡ is_ok r
same_ok (Ok c) = refl
same_ok (Err f) = refl

pub returns-in-Ok : goal.returns-in-Ok
returns-in-Ok c =
    ap is_ok c.in-Ok.ensures.answer ∙ same_ok (content_from c.words_of-words.result.now)
    ∙ ap (λ (ws : List ℕ). is_ok (content_from ws)) c.words_of-words.ensures
