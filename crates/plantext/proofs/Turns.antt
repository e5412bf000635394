-- One turn of reading: a line of a text that is taken.
use Rattle.std.proofs.Common.{◌≡◌, ℕ, ◌+◌, List, ◌∷◌, Ok, Result, sym, ap, ◌∙◌}
use Rattle.plantext.specs.declared.faults.Reason.{Reason}
use Rattle.plantext.specs.Parts.{said, words_of}
use Rattle.plantext.specs.Reading.{Content, and_then, line_taken, lines_taken, on_line, giving}

pub line_on : (n : ℕ) (line s : List ℕ) (ls all : List (List ℕ)) (c d : Content) (r : Result (Unit {0}) Reason) → all ≡ line ∷ ls → s ≡ said line → giving r d ≡ line_taken (words_of s) c → r ≡ Ok tt → lines_taken (n + 1) ls d ≡ lines_taken n all c
line_on n line s ls all c d r are is e ok =
    ap (λ q. and_then (on_line n q) (λ t. lines_taken (n + 1) ls t)) (ap (λ q. giving q d) (sym ok) ∙ e ∙ ap (λ b. line_taken (words_of b) c) is)
    ∙ ap (λ xs. lines_taken n xs c) (sym are)
