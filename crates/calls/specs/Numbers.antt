-- The number of each refusal.
use Rattle.std.specs.Prelude.{ℕ}
use Rattle.calls.specs.declared.refusal.Refusal.{Refusal}
use Rattle.calls.specs.declared.refusal.Refusal.TheVariants.{UnknownBadge, UnknownSession, NotOpen, AlreadyOpen, UnknownRole, NotEntitled, AlreadyActive, NotActive, OffFloor, UnknownRight, NoRole, OutOfPatience, NotEnabled}

abbrev pub number : Refusal → ℕ
number UnknownBadge = 1
number UnknownSession = 2
number NotOpen = 3
number AlreadyOpen = 4
number UnknownRole = 5
number NotEntitled = 6
number AlreadyActive = 7
number NotActive = 8
number OffFloor = 9
number UnknownRight = 10
number NoRole = 11
number OutOfPatience = 12
number NotEnabled = 13
