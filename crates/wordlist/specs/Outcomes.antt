-- What a reading gives, and what it leaves where it is refused.
use Rattle.std.specs.Prelude.{Ok, Err, Result}
use Rattle.wordlist.specs.declared.faults.RecordFault.{RecordFault}
use Rattle.wordlist.specs.Reading.{Answer}

-- what is wanted of what was read, if nothing was refused
abbrev pub given : {S X : Type 0} → (S → X) → S × Answer → Result X RecordFault
given wanted (s, Ok u) = Ok (wanted s)
given wanted (s, Err f) = Err f

-- the answer to a reading
abbrev pub answered : {X : Type 0} → Result X RecordFault → Answer
answered (Ok x) = Ok tt
answered (Err f) = Err f

-- what is kept after a reading: refused words leave what was there
abbrev pub replaced : {X : Type 0} → X → Result X RecordFault → X
replaced old (Ok x) = x
replaced old (Err f) = old
