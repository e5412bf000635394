-- How a text is read: line by line, and in a line word by word, up to the first fault.
use Rattle.std.specs.Prelude.{ℕ, ◌+◌, ◌-◌, Bool, true, false, cond, not, ◌&&◌, List, [], ◌∷◌, ◌++◌, length, Some, None, Ok, Err, vec_items, vec_capacity, codes, Option, Result, ◌==◌, nat_le}
use Rattle.std.specs.List.{between, slice_get}
use Rattle.std.specs.Str.{bytes_eq}
use Rattle.std.specs.Option.{option_map}
use Rattle.plantext.specs.declared.faults.Reason.{Reason}
use Rattle.plantext.specs.declared.faults.Reason.TheVariants.{NoSection, SectionOutOfPlace, MissingSection, NoRoom}
use Rattle.plantext.specs.declared.faults.TextFault.{TextFault}
use Rattle.plantext.specs.declared.page.Heading.{Heading}
use Rattle.plantext.specs.declared.page.Heading.TheVariants.{Drawn, Cells, Zones, Policy}
use Rattle.plantext.specs.declared.page.Section.{Section}
use Rattle.plantext.specs.declared.page.Page.{Page}
use Rattle.plantext.specs.Parts.{lines_of, said, words_of}
use Rattle.plantext.specs.Digits.{within, hex_of}

-- what was read: the sections in order, and the words of all of them
pub record Content : Type 0 where
  pub sections : List Section
  pub words : List ℕ

-- nothing read
abbrev pub blank : Content
blank = record { sections = []; words = [] }

-- what a page holds
abbrev pub content_of : Page → Content
content_of p = record { sections = vec_items p.sections; words = vec_items p.words }

-- how many words a page has room for
abbrev pub room_of : Page → ℕ
room_of p = vec_capacity p.words

-- the heading of section k, if there is one
abbrev pub heading_at : ℕ → Content → Option Heading
heading_at k c = option_map (λ s. s.heading) (slice_get c.sections k)

-- where a section starts among n words: at their end where there is none
abbrev pub start_in : ℕ → Option Section → ℕ
start_in n (Some s) = s.first
start_in n None = n

-- where section k starts among the words
abbrev pub start_at : ℕ → Content → ℕ
start_at k c = start_in (length c.words) (slice_get c.sections k)

-- the words of section k: from its start up to that of the next, and none where it is not there
abbrev pub words_at : ℕ → Content → List ℕ
words_at k c = between (start_at k c) (start_at (k + 1) c) c.words

-- the section that a word names
abbrev pub named : List ℕ → Option Heading
named w =
    cond (bytes_eq w (codes "drawn")) (Some Drawn)
    (cond (bytes_eq w (codes "cells")) (Some Cells)
    (cond (bytes_eq w (codes "zones")) (Some Zones)
    (cond (bytes_eq w (codes "policy")) (Some Policy) None)))

-- a line is a section line if its only word is a name
abbrev pub heading_of : List (List ℕ) → Option Heading
heading_of [] = None
heading_of (w ∷ []) = named w
heading_of (w ∷ v ∷ ws) = None

-- goes on with what was read, unless a fault ended it
abbrev pub and_then : {X Y E : Type 0} → Result X E → (X → Result Y E) → Result Y E
and_then (Ok x) k = k x
and_then (Err e) k = Err e

-- x where no section is open yet, else y
abbrev pub unopened : {X : Type 0} → Content → X → X → X
unopened c x y = cond (length c.sections == 0) x y

-- what was read, with a section that starts at the next word
abbrev pub with_section : Heading → Content → Content
with_section h c = record { sections = c.sections ++ record { heading = h; first = length c.words } ∷ []; words = c.words }

-- what was read, with one more word
abbrev pub with_word : ℕ → Content → Content
with_word n c = record { sections = c.sections; words = c.words ++ n ∷ [] }

-- whether there is a heading and it is that of a policy
abbrev pub is_policy : Option Heading → Bool
is_policy None = false
is_policy (Some Drawn) = false
is_policy (Some Cells) = false
is_policy (Some Zones) = false
is_policy (Some Policy) = true

-- whether the last section is a policy
abbrev pub ruled : Content → Bool
ruled c = is_policy (heading_at (length c.sections - 1) c)

-- whether a section may open now: a plan as the first, zones after it up to twice, a policy once and as the last
abbrev pub may_open : Heading → Content → Bool
may_open Drawn c = length c.sections == 0
may_open Cells c = length c.sections == 0
may_open Zones c = within 1 2 (length c.sections) && not (ruled c)
may_open Policy c = within 1 3 (length c.sections) && not (ruled c)

-- a section line opens its section in its place
abbrev pub opened : Heading → Content → Result Content Reason
opened h c = cond (may_open h c) (Ok (with_section h c)) (Err SectionOutOfPlace)

-- a word belongs to the open section
abbrev pub word_taken : List ℕ → Content → Result Content Reason
word_taken w c = unopened c (Err NoSection) (and_then (hex_of w) (λ n. Ok (with_word n c)))

-- the words of a line in their order
abbrev pub words_taken : List (List ℕ) → Content → Result Content Reason
words_taken [] c = Ok c
words_taken (w ∷ ws) c = and_then (word_taken w c) (λ d. words_taken ws d)

-- a line with these words, by the name that it may be
abbrev pub by_heading : Option Heading → List (List ℕ) → Content → Result Content Reason
by_heading (Some h) ws c = opened h c
by_heading None ws c = words_taken ws c

-- a line with these words: a section line, or words of the open section
abbrev pub line_taken : List (List ℕ) → Content → Result Content Reason
line_taken ws c = by_heading (heading_of ws) ws c

-- a fault has the number of its line
abbrev pub on_line : {X : Type 0} → ℕ → Result X Reason → Result X TextFault
on_line n (Ok x) = Ok x
on_line n (Err e) = Err (record { line = n; reason = e })

-- the lines from number n on; a section that is missing is missed after the last line
abbrev pub lines_taken : ℕ → List (List ℕ) → Content → Result Content TextFault
lines_taken n [] c = on_line n (unopened c (Err MissingSection) (Ok c))
lines_taken n (l ∷ ls) c = and_then (on_line n (line_taken (words_of (said l)) c)) (λ d. lines_taken (n + 1) ls d)

-- what a text says
abbrev pub text_of : List ℕ → Result Content TextFault
text_of bs = lines_taken 1 (lines_of bs) blank

-- what a page reads: it takes texts of no more bytes than it has room for words
abbrev pub read_of : ℕ → List ℕ → Result Content TextFault
read_of room bs = cond (nat_le (length bs) room) (text_of bs) (on_line 0 (Err NoRoom))

-- what is held and answered after a reading: nothing is held of a text that is refused
abbrev pub answered : Result Content TextFault → Content × Result (Unit {0}) TextFault
answered (Ok c) = (c, Ok tt)
answered (Err f) = (blank, Err f)

-- an answer with what was read
abbrev pub giving : {X E : Type 0} → Result (Unit {0}) E → X → Result X E
giving (Ok u) x = Ok x
giving (Err e) x = Err e
