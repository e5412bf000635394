-- What a reader hands out.
use Rattle.std.specs.Prelude.{◌≡◌, ◌+◌, length, Option}
use Rattle.std.specs.Option.{option_map}
use Rattle.wordlist.specs.declared.reader.Reader.{Reader}
use Rattle.wordlist.specs.declared.reader.Record.{Record}
use Rattle.wordlist.specs.Cutting.{cut_of, left_of, shown}

-- the record r in front of what is left, and the reader t of what is left after it
pub record Hands (s : Reader) (r : Option Record) (t : Reader) : Type 0 where
  pub cut : option_map shown r ≡ cut_of s.index s.left.now
  pub left : t.left.now ≡ left_of s.left.now
  pub index : t.index + length t.left.now ≡ s.index + length s.left.now
