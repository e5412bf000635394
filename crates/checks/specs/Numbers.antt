-- The number, the layer and the figures of each fault.
use Rattle.std.specs.Prelude.{ℕ, List, [], ◌∷◌}
use Rattle.wordlist.specs.declared.faults.Told.{Told}
use Rattle.wordlist.specs.Faults.{told as record_told}
use Rattle.checks.specs.declared.faults.SealFault.{SealFault}
use Rattle.checks.specs.declared.faults.SealFault.TheVariants.{Record, Sealed, Empty, Misplaced, Outside, Overlap, Unlike, Impatient}

-- layer 3 is sealing
abbrev pub of_sealing : ℕ → List ℕ → Told
of_sealing n figures = record { number = n; layer = 3; figures = figures }

-- a fault of the words or the records keeps what it says; the figures of the others are their fields in order, then zeros
abbrev pub told : SealFault → Told
told (Record f) = record_told f
told Sealed = of_sealing 19 (0 ∷ 0 ∷ 0 ∷ [])
told (Empty place) = of_sealing 40 (place ∷ 0 ∷ 0 ∷ [])
told (Misplaced role) = of_sealing 41 (role ∷ 0 ∷ 0 ∷ [])
told (Outside schema place) = of_sealing 42 (schema ∷ place ∷ 0 ∷ [])
told (Overlap schema logic extent) = of_sealing 43 (schema ∷ logic ∷ extent ∷ [])
told (Unlike child parent) = of_sealing 44 (child ∷ parent ∷ 0 ∷ [])
told (Impatient child parent) = of_sealing 45 (child ∷ parent ∷ 0 ∷ [])
