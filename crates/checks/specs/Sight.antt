-- What sealing asks of a plan.
use Rattle.std.specs.Prelude.{ℕ, Bool, not, ◌&&◌, ◌||◌, length, Option}
use Rattle.sets.specs.Bounds.{every, some}
use Rattle.plan.specs.Hall.{Hall, type_at}
use Rattle.plan.specs.Lying.{has_point, lies_in, shares as meets}
use Rattle.survey.specs.declared.Survey.{Survey}
use Rattle.survey.specs.Kept.{is_type, kept_type, kept_point, kept_lies, kept_shares}

-- how many places, the type of a place, whether it covers any point, lies in another, shares a point with another
pub record Sight : Type 0 where
  pub count : ℕ
  pub types : ℕ → Option ℕ
  pub point : ℕ → Bool
  pub lies : ℕ → ℕ → Bool
  pub shares : ℕ → ℕ → Bool

-- what a hall says
abbrev pub sight_of : Hall → Sight
sight_of h = record { count = length h.places; types = type_at h; point = has_point h; lies = lies_in h; shares = meets h }

-- what a survey keeps
abbrev pub kept : Survey → Sight
kept s = record { count = s.count; types = kept_type s; point = kept_point s; lies = kept_lies s; shares = kept_shares s }

-- place p is in use and of type t
abbrev pub is_of : Sight → ℕ → ℕ → Bool
is_of v t p = is_type t (v.types p)

-- place p lies in some place of type t
abbrev pub in_some : Sight → ℕ → ℕ → Bool
in_some v t p = some v.count (λ q. is_of v t q && v.lies p q)

-- every place of type t lies in some place of type u
abbrev pub type_within : Sight → ℕ → ℕ → Bool
type_within v t u = every v.count (λ p. not (is_of v t p) || in_some v u p)
