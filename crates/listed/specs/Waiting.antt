-- The place that waits for words fits into the list of places, and its words into its body.
use Rattle.std.specs.Prelude.{ℕ, ◌+◌, List, length}
use Rattle.listed.specs.declared.draft.Next.{Next}
use Rattle.listed.specs.declared.draft.Next.TheVariants.{Front, Head, Body}

-- how many places wait
abbrev pub waiting : Next → ℕ
waiting Front = 0
waiting Head = 0
waiting (Body h owed) = 1

-- how many words the waiting place will have, where `ws` were read
abbrev pub due : Next → List ℕ → ℕ
due Front ws = 0
due Head ws = 0
due (Body h owed) ws = length ws + owed

-- how many words at least are owed, where a place waits
abbrev pub least : Next → ℕ
least Front = 1
least Head = 1
least (Body h owed) = owed
