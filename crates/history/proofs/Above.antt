-- A badge enabled in a role is enabled in each ancestor, since that is so at each point and after any misses.
use Rattle.std.proofs.Common.{◌≡◌, ℕ, true, Some, None, Option}
use Rattle.sealing.specs.Ground.{Ground, ground_of}
use Rattle.sealing.specs.Located.{where_at, held, enabled_at}
use Rattle.sealing.specs.Laws.{EnabledUp}
use Rattle.history.specs.Questions.{at_position}
use Rattle.history.specs.History.{after}
use Rattle.history.specs.Laws.{EnabledAbove}

by_position : (g : Ground) (r a : ℕ) → ((x y m : ℕ) → enabled_at g r x y m ≡ true → enabled_at g a x y m ≡ true) → (o : Option (ℕ × ℕ)) (m : ℕ) → held g r (at_position o None (λ x y. where_at g r x y m)) ≡ true → held g a (at_position o None (λ x y. where_at g a x y m)) ≡ true
by_position g r a up None m h = h
by_position g r a up (Some p) m h = up p.0 p.1 m h

pub above_from : EnabledUp → EnabledAbove
above_from up h ws c sealed calls b r a over enabled =
    let st = after (ground_of h c) calls b in
    by_position (ground_of h c) r a (up h ws c sealed r a over) st.position st.misses enabled
