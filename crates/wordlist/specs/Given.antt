-- What a draft gives is what its state gives.
use Rattle.std.specs.Prelude.{◌≡◌, ℕ, List, Ok, Err, refl}
use Rattle.std.proofs.Common.{ap, ◌∙◌}
use Rattle.wordlist.specs.Outcomes.{given}
use Rattle.wordlist.specs.Reading.{Rules, Answer, read_of}

module _ {D S X : Type 0} (state : D → S) (wanted : S → X) where
  of_state : (e : D) (a : Answer) → given (λ d. wanted (state d)) (e, a) ≡ given wanted (state e, a)
  of_state e (Ok u) = refl
  of_state e (Err f) = refl

  pub given_from : (g : Rules S) (start : S) (d e : D) (a : Answer) (ws : List ℕ) → state d ≡ start → (state e, a) ≡ read_of g (state d) ws → given (λ x. wanted (state x)) (e, a) ≡ given wanted (read_of g start ws)
  given_from g start d e a ws is read = of_state e a ∙ ap (given wanted) (read ∙ ap (λ s. read_of g s ws) is)
