-- The call that a line makes.
use Rattle.std.specs.Prelude.{ℕ, Bool, cond, ◌||◌, List, length, drop, Some, None, codes, Option, ◌==◌, nat_lt, slice_index}
use Prim.Native.String.{String}
use Rattle.calls.specs.declared.call.Call.{Call}
use Rattle.calls.specs.declared.call.Event.{Event}
use Rattle.calls.specs.declared.call.Event.TheVariants.{Report, Miss, Open, Close, Activate, Drop, Ask}
use Rattle.benchlines.specs.Arguments.{and_then, arguments_of}

-- a line has at most so many bytes
abbrev pub longest_line : ℕ
longest_line = 32

-- an argument has at most so many digits
abbrev pub most_digits : ℕ
most_digits = 3

-- a call with n arguments: the badge, and those of the event
abbrev pub call : ℕ → List ℕ → ((ℕ → ℕ) → Event) → Option Call
call n bs event = and_then (arguments_of most_digits n bs) (λ ns. Some (record { badge = slice_index ns 0; event = event (λ k. slice_index ns k) }))

-- c is the letter
abbrev pub is : String → ℕ → Bool
is letter c = c == slice_index (codes letter) 0

-- the call of a letter with the arguments after it
abbrev pub lettered : ℕ → List ℕ → Option Call
lettered c bs =
    cond (is "R" c) (call 3 bs (λ a. Report (record { x = a 1; y = a 2 })))
    (cond (is "M" c) (call 1 bs (λ a. Miss))
    (cond (is "O" c) (call 2 bs (λ a. Open (a 1)))
    (cond (is "C" c) (call 2 bs (λ a. Close (a 1)))
    (cond (is "A" c) (call 3 bs (λ a. Activate (a 1) (a 2)))
    (cond (is "D" c) (call 3 bs (λ a. Drop (a 1) (a 2)))
    (cond (is "Q" c) (call 4 bs (λ a. Ask (a 1) (a 2) (a 3)))
    None))))))

-- a line is a letter, and then its arguments; any other line makes no call
abbrev pub line_call : List ℕ → Option Call
line_call bs = cond (length bs == 0 || nat_lt longest_line (length bs)) None (lettered (slice_index bs 0) (drop 1 bs))
