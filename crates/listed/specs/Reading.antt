-- How a list of a floor word and places is read.
use Rattle.std.specs.Prelude.{ℕ, ◌-◌, Bool, true, false, cond, ◌&&◌, ◌||◌, List, [], ◌∷◌, ◌++◌, length, Result, ◌==◌, nat_le, nat_lt}
use Rattle.plan.specs.Hall.{Hall, most_places, most_side}
use Rattle.wordlist.specs.declared.faults.RecordFault.{RecordFault}
use Rattle.wordlist.specs.Cutting.{body_of}
use Rattle.wordlist.specs.Fields.{field, kind_of}
use Rattle.wordlist.specs.Outcomes.{given, replaced}
use Rattle.wordlist.specs.Reading.{Rules, read_of}
use Rattle.listed.specs.declared.floor.Floor.{Floor}
use Rattle.listed.specs.declared.draft.Next.{Next}
use Rattle.listed.specs.declared.draft.Next.TheVariants as next
use Rattle.listed.specs.declared.draft.Draft.{Draft}
use Rattle.listed.specs.Layouts.{Layout, blank, hall_of, layout_of}
use Rattle.listed.specs.Makes.{Make}

-- what may stand next: the floor word, a head, or one of the words that a place still owes
pub data Turn : Type 0 where
  front : Turn
  head : Turn
  body : ℕ → List ℕ → ℕ → Turn

-- what was read so far, and what may stand next
pub record Progress (P : Type 0) : Type 0 where
  pub layout : Layout P
  pub turn : Turn

abbrev pub start : {P : Type 0} → Progress P
start = record { layout = blank; turn = front }

-- a side of the floor is 1 to 256 points
abbrev pub side : ℕ → Bool
side n = nat_le 1 n && nat_le n most_side

-- the floor word, of kind 1: W in bits 0 to 8, H in bits 9 to 17, no other bit
abbrev pub sound_floor : ℕ → Bool
sound_floor w = side (field 0 9 w) && (side (field 9 9 w) && field 18 10 w == 0)

abbrev pub floor_of : ℕ → Floor
floor_of w = record { width = field 0 9 w; height = field 9 9 w }

-- the end of a list owes the front word or the rest of a place
abbrev pub owing : Turn → Bool
owing front = true
owing head = false
owing (body h ws n) = true

module _ {P : Type 0} (m : Make P) where
  -- the kind of word that may stand next
  abbrev pub kind_due : Turn → ℕ
  kind_due front = 1
  kind_due head = m.head
  kind_due (body h ws n) = m.body

  -- a head wants room for one place more
  abbrev pub room_at : Turn → Layout P → Bool
  room_at front l = true
  room_at head l = nat_lt (length l.places) most_places
  room_at (body h ws n) l = true

  abbrev pub sound_at : Turn → Layout P → ℕ → Bool
  sound_at front l w = sound_floor w
  sound_at head l w = m.sound_head w
  sound_at (body h ws n) l w = m.sound_body l.floor w

  -- a place with n words owed: without any it is whole
  abbrev pub grown : Layout P → ℕ → List ℕ → ℕ → Progress P
  grown l h ws n =
      cond (n == 0)
      (record { layout = record { floor = l.floor; places = l.places ++ m.place_of l.floor h ws ∷ [] }; turn = head })
      (record { layout = l; turn = body h ws n })

  abbrev pub taken_at : Turn → Layout P → ℕ → Progress P
  taken_at front l w = record { layout = record { floor = floor_of w; places = l.places }; turn = head }
  taken_at head l w = grown l w [] (body_of w)
  taken_at (body h ws n) l w = grown l h (ws ++ w ∷ []) (n - 1)

  -- the floor word stands once, in front; each place's head is followed by the words that belong to it
  abbrev pub list_rules : Rules (Progress P)
  list_rules = record {
    member = λ k. (k == 1) || (k == m.head || k == m.body);
    turn = λ s w. (kind_of w == kind_due s.turn);
    room = λ s w. room_at s.turn s.layout;
    sound = λ s w. sound_at s.turn s.layout w;
    taken = λ s w. taken_at s.turn s.layout w;
    owes = λ s. owing s.turn;
  }

  -- what a list says, or the first fault of it
  abbrev pub layout_from : List ℕ → Result (Layout P) RecordFault
  layout_from ws = given (λ s. s.layout) (read_of list_rules start ws)

-- what the program holds
abbrev pub turn_of : Next → List ℕ → Turn
turn_of next.Front ws = front
turn_of next.Head ws = head
turn_of (next.Body h n) ws = body h ws n

abbrev pub progress_of : {S P : Type 0} → (S → P) → Draft S → Progress P
progress_of model d = record { layout = layout_of model d.sheet; turn = turn_of d.next d.body.items }

-- what the plan made from a list means: refused words give a floor of one point with no place
abbrev pub hall_from : {P : Type 0} → Make P → List ℕ → Hall
hall_from m ws = hall_of m.meaning (replaced blank (layout_from m ws))
