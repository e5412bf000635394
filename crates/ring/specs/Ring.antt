-- The rule of coverage: a place is a closed ring of corners, which may cross itself.
use Rattle.std.specs.Prelude.{ℕ, ◌+◌, ◌-◌, ◌%◌, min, max, Bool, true, false, cond, not, ◌&&◌, ◌||◌, List, [], ◌∷◌, length, ℤ, pos, ◌-ℤ◌, ◌*ℤ◌, ◌==◌, int_lt, nat_le, nat_lt, slice_index_or}
use Rattle.point.specs.declared.Point.{Point}

-- D of the edge from a to b and the point (x, y): (b.x − a.x) × (y − a.y) − (b.y − a.y) × (x − a.x)
abbrev pub side_of : Point → Point → ℕ → ℕ → ℤ
side_of a b x y =
    (pos b.x -ℤ pos a.x) *ℤ (pos y -ℤ pos a.y) -ℤ (pos b.y -ℤ pos a.y) *ℤ (pos x -ℤ pos a.x)

-- n lies between a and b, both included
abbrev pub between : ℕ → ℕ → ℕ → Bool
between a b n = nat_le (min a b) n && nat_le n (max a b)

-- d is 0: neither below it nor above it
abbrev pub is_zero : ℤ → Bool
is_zero d = not (int_lt d (pos 0)) && not (int_lt (pos 0) d)

-- the point is on the edge: within the box of a and b, border included, and D = 0
abbrev pub on_edge : Point → Point → ℕ → ℕ → Bool
on_edge a b x y = between a.x b.x x && (between a.y b.y y && is_zero (side_of a b x y))

-- exactly one of the two holds
abbrev pub either : Bool → Bool → Bool
either true q = not q
either false q = q

-- the edge is crossed: exactly one of a.y > y and b.y > y holds, and D > 0 if b.y > a.y, D < 0 if b.y < a.y
abbrev pub crossed : Point → Point → ℕ → ℕ → Bool
crossed a b x y =
    either (nat_lt y a.y) (nat_lt y b.y)
    && cond (nat_lt a.y b.y) (int_lt (pos 0) (side_of a b x y)) (int_lt (side_of a b x y) (pos 0))

-- the point is on one of the edges from a to the first of the corners, and then from each corner to the next
abbrev pub on_some : Point → List Point → ℕ → ℕ → Bool
on_some a [] x y = false
on_some a (b ∷ cs) x y = on_edge a b x y || on_some b cs x y

-- how many of those edges are crossed
abbrev pub crossings : Point → List Point → ℕ → ℕ → ℕ
crossings a [] x y = 0
crossings a (b ∷ cs) x y = cond (crossed a b x y) 1 0 + crossings b cs x y

-- the last of the corners
abbrev pub last_of : List Point → Point
last_of cs = slice_index_or cs (length cs - 1) (record { x = 0; y = 0 })

-- the ring covers the point: it is on an edge, or an odd number of edges is crossed; the first edge runs from the last corner to the first
abbrev pub covers : List Point → ℕ → ℕ → Bool
covers cs x y = on_some (last_of cs) cs x y || crossings (last_of cs) cs x y % 2 == 1
