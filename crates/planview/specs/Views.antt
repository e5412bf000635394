-- A place in numbers and pictures.
use Rattle.std.specs.Prelude.{ℕ, cond, List, map, sum_by, count_by}
use Rattle.std.specs.List.{range_with_len}
use Rattle.plan.specs.Hall.{Hall, covers_at}

-- how many points of row y place k covers
abbrev pub points_of_row : Hall → ℕ → ℕ → ℕ
points_of_row h k y = count_by (λ x. covers_at h k x y) (range_with_len 0 h.width)

-- how many points place k covers: those of all rows
abbrev pub points_of : Hall → ℕ → ℕ
points_of h k = sum_by (λ y. points_of_row h k y) (range_with_len 0 h.height)

-- `#` where place k covers (x, y), else `.`
abbrev pub mark_at : Hall → ℕ → ℕ → ℕ → ℕ
mark_at h k y x = cond (covers_at h k x y) 35 46

-- row y of place k: a mark for each point from side to side
abbrev pub picture_row : Hall → ℕ → ℕ → List ℕ
picture_row h k y = map (mark_at h k y) (range_with_len 0 h.width)
