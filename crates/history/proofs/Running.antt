-- Runs of calls, one call more at the end.
use Rattle.std.proofs.Common.{◌≡◌, List, [], ◌∷◌, ◌++◌, refl, ap}
use Rattle.sealing.specs.Ground.{Ground}
use Rattle.calls.specs.declared.call.Call.{Call}
use Rattle.history.specs.History.{answer, answers_after, followed_by}

pub followed_push : (past calls : List Call) (c : Call) → followed_by past (calls ++ c ∷ []) ≡ c ∷ followed_by past calls
followed_push past [] c = refl
followed_push past (d ∷ calls) c = followed_push (d ∷ past) calls c

-- the answers before, and then the answer to the call
pub answers_push : (g : Ground) (past calls : List Call) (c : Call) → answers_after g past (calls ++ c ∷ []) ≡ answers_after g past calls ++ answer g (followed_by past calls) c ∷ []
answers_push g past [] c = refl
answers_push g past (d ∷ calls) c = ap (λ rest. answer g past d ∷ rest) (answers_push g (d ∷ past) calls c)
