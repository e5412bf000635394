-- Worked inputs of the bench, and what is printed for them.
use Rattle.std.specs.Prelude.{◌≡◌, ℕ, List, [], ◌∷◌, codes}
use Prim.Native.String.{String}
use Rattle.std.specs.List.{flat_map}
use Rattle.benchrun.specs.Printed.{ended, printed}
use Rattle.guardcases.specs.Rows.{hall}

-- lines, each with its line feed
abbrev pub text : List String → List ℕ
text lines = flat_map (λ line. ended (codes line)) lines

-- the worked session of one role
abbrev pub short : List String
short = "O 0 0" ∷ "A 0 0 1" ∷ "Q 0 0 2 5" ∷ "R 0 2 2" ∷ "Q 0 0 2 5" ∷ "M 0" ∷ "Q 0 0 2 5" ∷ []

abbrev pub short_told : List String
short_told = "ok" ∷ "ok" ∷ "no 12" ∷ "ok" ∷ "grant 1" ∷ "ok" ∷ "no 12" ∷ []

-- lines that meet every refusal
abbrev pub longer : List String
longer =
    "R 2 0 0" ∷ "O 0 4" ∷ "A 0 0 0" ∷ "O 0 0" ∷ "O 0 0" ∷ "A 0 0 3" ∷ "A 0 0 2" ∷ "A 0 0 0"
    ∷ "A 0 0 1" ∷ "A 0 0 1" ∷ "D 0 0 2" ∷ "M 0" ∷ "Q 0 0 16 5" ∷ "Q 0 0 3 5" ∷ "Q 0 0 2 5" ∷ "R 0 8 0"
    ∷ "R 0 2 2" ∷ "Q 0 0 2 5" ∷ "Q 0 0 1 5" ∷ "R 0 3 2" ∷ "Q 0 0 2 5" ∷ "Q 0 0 1 5" ∷ "R 0 2 2" ∷ "M 0"
    ∷ "R 0 999 0" ∷ "Q 0 0 2 5" ∷ "Q 0 0 1 5" ∷ "M 0" ∷ "M 0" ∷ "Q 0 0 1 5" ∷ "D 0 0 0" ∷ "R 0 2 2"
    ∷ "Q 0 0 1 5" ∷ "C 0 0" ∷ "Q 0 0 1 5" ∷ "O 0 0" ∷ "Q 0 0 1 5" ∷ "O 1 0" ∷ "A 1 0 1" ∷ "A 1 0 0"
    ∷ "R 1 5 5" ∷ "Q 1 0 1 5" ∷ []

abbrev pub longer_told : List String
longer_told =
    "no 1" ∷ "no 2" ∷ "no 3" ∷ "ok" ∷ "no 4" ∷ "no 5" ∷ "no 6" ∷ "ok" ∷ "ok" ∷ "no 7" ∷ "no 8" ∷ "ok"
    ∷ "no 10" ∷ "no 11" ∷ "no 12" ∷ "no 9" ∷ "ok" ∷ "grant 1" ∷ "grant 0" ∷ "ok" ∷ "no 13" ∷ "grant 0" ∷ "ok" ∷ "ok"
    ∷ "no 9" ∷ "no 12" ∷ "grant 0" ∷ "ok" ∷ "ok" ∷ "no 12" ∷ "ok" ∷ "ok" ∷ "grant 1" ∷ "ok" ∷ "no 3" ∷ "ok"
    ∷ "no 11" ∷ "ok" ∷ "no 6" ∷ "ok" ∷ "ok" ∷ "grant 0" ∷ []

-- bad lines between good ones
abbrev pub mixed : List String
mixed = "M" ∷ "O 0 0" ∷ "" ∷ "O 0 0 0" ∷ "m 0" ∷ "C 0 000" ∷ "M 0000" ∷ "C 0 0" ∷ []

abbrev pub mixed_told : List String
mixed_told = "bad" ∷ "ok" ∷ "bad" ∷ "bad" ∷ "bad" ∷ "ok" ∷ "bad" ∷ "no 3" ∷ []

-- what is printed for each of these inputs
pub record Sessions : Type 0 where
  pub one_role : printed hall (text short) ≡ text short_told
  pub every_refusal : printed hall (text longer) ≡ text longer_told
  pub with_bad : printed hall (text mixed) ≡ text mixed_told
