-- How a list of words is cut into records.
use Rattle.std.specs.Prelude.{ℕ, cond, List, [], ◌∷◌, take, drop, Some, None, Option, ◌==◌}
use Rattle.wordlist.specs.Fields.{field, kind_of}
use Rattle.wordlist.specs.declared.reader.Record.{Record}
use Rattle.wordlist.specs.declared.reader.Record.TheVariants.{Plain, Drawn, Cells}

-- how many words belong to a head: a drawn place says it in bits 4 to 8, a cell place has sixteen rows
abbrev pub body_of : ℕ → ℕ
body_of h = cond (kind_of h == 2) (field 4 5 h) (cond (kind_of h == 4) 16 0)

-- a record as a part of the list: where its head stands, the head, and the words that belong to it
pub data Cut : Type 0 where
  plain : ℕ → ℕ → Cut
  drawn : ℕ → ℕ → List ℕ → Cut
  cells : ℕ → ℕ → List ℕ → Cut

-- the record of a head and the words that belong to it
abbrev pub cut_at : ℕ → ℕ → List ℕ → Cut
cut_at i h body = cond (kind_of h == 2) (drawn i h body) (cond (kind_of h == 4) (cells i h body) (plain i h))

-- the record at index i, in front of the words left
abbrev pub cut_of : ℕ → List ℕ → Option Cut
cut_of i [] = None
cut_of i (h ∷ ws) = Some (cut_at i h (take (body_of h) ws))

-- the words after it
abbrev pub left_of : List ℕ → List ℕ
left_of [] = []
left_of (h ∷ ws) = drop (body_of h) ws

-- a record of the program, by what its references point to
abbrev pub shown : Record → Cut
shown (Plain i h) = plain i h.now
shown (Drawn i h ws) = drawn i h.now ws.now
shown (Cells i h ws) = cells i h.now ws.now

-- where a record stands, and its words
abbrev pub index_of : Cut → ℕ
index_of (plain i h) = i
index_of (drawn i h ws) = i
index_of (cells i h ws) = i

abbrev pub words_of : Cut → List ℕ
words_of (plain i h) = h ∷ []
words_of (drawn i h ws) = h ∷ ws
words_of (cells i h ws) = h ∷ ws
