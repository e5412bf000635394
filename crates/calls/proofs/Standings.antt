-- Two standings with the same parts are the same.
use Rattle.std.proofs.Common.{◌≡◌, ℕ, Bool, Option, ap, ◌∙◌}
use mathlib.Core.Path.{fun_ext}
use Rattle.calls.specs.Standing.{Standing}

-- the standing of these parts
abbrev of_parts : Option (ℕ × ℕ) → ℕ → (ℕ → Bool) → (ℕ → ℕ → Bool) → Standing
of_parts p m o a = record { position = p; misses = m; opened = o; active = a }

-- sessions and roles are compared one by one
pub same_standing : (s t : Standing) → s.position ≡ t.position → s.misses ≡ t.misses → ((k : ℕ) → s.opened k ≡ t.opened k) → ((k r : ℕ) → s.active k r ≡ t.active k r) → s ≡ t
same_standing s t p m o a =
    ap (λ x. of_parts x s.misses s.opened s.active) p
    ∙ ap (λ x. of_parts t.position x s.opened s.active) m
    ∙ ap (λ x. of_parts t.position t.misses x s.active) (fun_ext o)
    ∙ ap (λ x. of_parts t.position t.misses t.opened x) (fun_ext (λ k. fun_ext (a k)))
