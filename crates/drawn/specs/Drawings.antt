-- Places drawn as closed rings of corners, and their words.
use Rattle.std.specs.Prelude.{ℕ, ◌+◌, ◌*◌, ◌^◌, Bool, ◌&&◌, List, ◌∷◌, map, length, take, ◌==◌, nat_le, nat_lt}
use Rattle.wordlist.specs.Fields.{field}
use Rattle.listed.specs.declared.floor.Floor.{Floor}
use Rattle.listed.specs.Makes.{Make}
use Rattle.point.specs.declared.Point.{Point}
use Rattle.ring.specs.Ring.{covers}
use Rattle.drawn.specs.declared.outline.Outline.{Outline}

-- a type, and the corners of a closed ring
pub record Drawing : Type 0 where
  pub ty : ℕ
  pub corners : List Point

-- the head, of kind 2: type in bits 0 to 3, corner count in bits 4 to 8, no other bit; a ring has 3 to 16 corners
abbrev pub sound_head : ℕ → Bool
sound_head w = nat_le 3 (field 4 5 w) && (nat_le (field 4 5 w) 16 && field 9 19 w == 0)

-- a corner, of kind 3: x in bits 0 to 7, y in bits 8 to 15, no other bit; it is a point of the floor
abbrev pub sound_corner : Floor → ℕ → Bool
sound_corner f w = nat_lt (field 0 8 w) f.width && (nat_lt (field 8 8 w) f.height && field 16 12 w == 0)

abbrev pub corner_of : ℕ → Point
corner_of w = record { x = field 0 8 w; y = field 8 8 w }

-- n is the number of corners
abbrev pub head_word : ℕ → ℕ → ℕ
head_word ty n = 2 * 2 ^ 28 + n * 2 ^ 4 + ty

abbrev pub corner_word : Point → ℕ
corner_word c = 3 * 2 ^ 28 + c.y * 2 ^ 8 + c.x

-- what a drawn place says of its words, and what it covers
abbrev pub drawn_make : Make Drawing
drawn_make = record {
  head = 2;
  body = 3;
  sound_head = sound_head;
  sound_body = sound_corner;
  place_of = λ f h ws. record { ty = field 0 4 h; corners = map corner_of ws };
  spell = λ f p. head_word p.ty (length p.corners) ∷ map corner_word p.corners;
  meaning = λ p. record { ty = p.ty; covers = covers p.corners };
}

-- what a kept place says
abbrev pub drawing_of : Outline → Drawing
drawing_of o = record { ty = o.ty; corners = take o.count o.corners }
