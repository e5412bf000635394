-- What a survey keeps of any numbers, and that it is what a hall says.
use Rattle.std.specs.Prelude.{◌≡◌, ℕ, Bool, false, not, ◌&&◌, ◌||◌, map, length, Some, None, Option, ◌==◌}
use Rattle.std.specs.List.{range_with_len}
use Rattle.sets.specs.Bounds.{every, some}
use Rattle.sets.specs.Member.{member}
use Rattle.plan.specs.Hall.{Hall, most_places, type_at}
use Rattle.plan.specs.Lying.{has_point, lies_in, shares as meets}
use Rattle.survey.specs.declared.Survey.{Survey}
use Rattle.survey.specs.declared.Seen.{Seen}
use Rattle.survey.specs.Entries.{entry, set_of}

-- what a survey of a hall keeps of number i
abbrev pub seen_of : Hall → ℕ → Seen
seen_of h i = record { ty = type_at h i; lies = set_of (lies_in h i); shares = set_of (meets h i) }

-- what a survey of a hall keeps: an entry for each number below 64
abbrev pub survey_of : Hall → Survey
survey_of h = record { count = length h.places; places = map (seen_of h) (range_with_len 0 most_places) }

-- the type of place i; a number past the entries has none
abbrev pub kept_type : Survey → ℕ → Option ℕ
kept_type s i = (entry s.places i).ty

-- places i and j share a point
abbrev pub kept_shares : Survey → ℕ → ℕ → Bool
kept_shares s i j = member (entry s.places i).shares.bits j

-- place i covers some point: it shares one with itself
abbrev pub kept_point : Survey → ℕ → Bool
kept_point s i = kept_shares s i i

-- place i lies in place j; one without a point lies in every place
abbrev pub kept_lies : Survey → ℕ → ℕ → Bool
kept_lies s i j = not (kept_point s i) || member (entry s.places i).lies.bits j

-- there is a type, and it is t
abbrev pub is_type : ℕ → Option ℕ → Bool
is_type t None = false
is_type t (Some own) = own == t

-- place i is in use and of type t
abbrev pub kept_of : Survey → ℕ → ℕ → Bool
kept_of s t i = is_type t (kept_type s i)

-- place j is of type t, and place i lies in it
abbrev pub kept_holds : Survey → ℕ → ℕ → ℕ → Bool
kept_holds s t i j = kept_of s t j && kept_lies s i j

-- place i lies in some place of type t
abbrev pub kept_lies_in_some : Survey → ℕ → ℕ → Bool
kept_lies_in_some s t i = some s.count (kept_holds s t i)

-- place i, if of type a, lies in some place of type b
abbrev pub kept_fits : Survey → ℕ → ℕ → ℕ → Bool
kept_fits s a b i = not (kept_of s a i) || kept_lies_in_some s b i

-- every place of type a lies in some place of type b
abbrev pub kept_type_lies : Survey → ℕ → ℕ → Bool
kept_type_lies s a b = every s.count (kept_fits s a b)

-- what a survey keeps of any numbers is what the hall says of them
pub record Tied (h : Hall) (s : Survey) : Type 0 where
  pub count : s.count ≡ length h.places
  pub types : (i : ℕ) → kept_type s i ≡ type_at h i
  pub points : (i : ℕ) → kept_point s i ≡ has_point h i
  pub lies : (i j : ℕ) → kept_lies s i j ≡ lies_in h i j
  pub shares : (i j : ℕ) → kept_shares s i j ≡ meets h i j
