-- How a badge stands by what is kept of it.
use Rattle.std.specs.Prelude.{◌≡◌, ℕ, ◌<◌, ◌≤◌, Bool, false, List, length, set, Some, None, Option, slice_index_or}
use Rattle.sets.specs.Member.{member}
use Rattle.calls.specs.declared.badge.Heard.{Heard}
use Rattle.calls.specs.declared.badge.Session.{Session}
use Rattle.calls.specs.declared.badge.Badge.{Badge}
use Rattle.calls.specs.Standing.{Standing, nothing_yet}

-- the position of a track
abbrev pub track_position : Option Heard → Option (ℕ × ℕ)
track_position None = None
track_position (Some t) = Some (t.at.x, t.at.y)

-- the misses of a track
abbrev pub track_misses : Option Heard → ℕ
track_misses None = 0
track_misses (Some t) = t.misses

-- a closed session
abbrev pub shut : Session
shut = record { opened = false; active = record { bits = 0 } }

-- how the badge stands
abbrev pub standing_of : Badge → Standing
standing_of k = record {
  position = track_position k.track;
  misses = track_misses k.track;
  opened = λ s. (slice_index_or k.sessions s shut).opened;
  active = λ s r. member (slice_index_or k.sessions s shut).active.bits r;
}

-- how a badge of that track stands that has no session open
abbrev pub track_only : Option Heard → Standing
track_only t = record { position = track_position t; misses = track_misses t; opened = nothing_yet.opened; active = nothing_yet.active }

-- the role is active in the session
abbrev pub holds : Session → ℕ → Bool
holds k r = member k.active.bits r

-- session i, if there is one, became another by the relation, and the others stayed
pub record ChangedAt (i : ℕ) (R : Session → Session → Type 0) (old new : List Session) : Type 0 where
  pub there : i < length old → (s : Session) × R (slice_index_or old i shut) s × (new ≡ set old i s)
  pub past : length old ≤ i → new ≡ old
