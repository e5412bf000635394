-- One digit more, and one argument more.
use Rattle.std.proofs.Common.{◌≡◌, ℕ, zero, suc, ◌+◌, ◌-◌, ◌*◌, ◌<◌, ◌≤◌, cond, leb, List, [], ◌∷◌, ◌++◌, drop, Some, None, Option, sym, refl, ap, ◌∙◌, arith}
use Rattle.std.proofs.lemmas.List.{append_assoc}
use Rattle.std.proofs.lemmas.Bool.{cond-true, le-leb}
use Rattle.benchlines.specs.Arguments.{and_then, or_else, digit_of, digits_of, argument_of, arguments_of, most_number}

pub digits_step : (xs ys : List ℕ) (left n d : ℕ) → 0 < left → ◌≡◌ {A = Option (ℕ × List ℕ)} (Some (d, ys)) (and_then (digit_of xs) (λ b. Some (b, drop 1 xs))) → n * 10 + d ≤ most_number → digits_of (left - 1) (n * 10 + d) ys ≡ digits_of left n xs
digits_step xs ys zero n d l e fit = absurd (omega arith)
digits_step xs ys (suc m) n d l e fit =
    let k : suc m - 1 ≡ m = omega arith in
    ap (λ j. digits_of j (n * 10 + d) ys) k ∙ carried (digit_of xs) e
  where
    carried : (o : Option ℕ) → ◌≡◌ {A = Option (ℕ × List ℕ)} (Some (d, ys)) (and_then o (λ b. Some (b, drop 1 xs))) → digits_of m (n * 10 + d) ys ≡ or_else o (Some (n, xs)) (λ b. cond (leb (n * 10 + b) most_number) (digits_of m (n * 10 + b) (drop 1 xs)) None)
    carried None e = cc
    carried (Some b) e =
        let same : ◌≡◌ {A = ℕ × List ℕ} (d, ys) (b, drop 1 xs) = cc in
        let fits : n * 10 + b ≤ most_number = omega (arith, ap (λ a. a.0) same) in
        ap (λ a. digits_of m (n * 10 + a.0) a.1) same ∙ sym (cond-true _ _ _ (le-leb _ _ fits))

-- the numbers of o, after others
abbrev pub after : List ℕ → Option (List ℕ) → Option (List ℕ)
after ns o = and_then o (λ ms. Some (ns ++ ms))

pub after_none : (o : Option (List ℕ)) → after [] o ≡ o
after_none None = refl
after_none (Some ms) = refl

after_more : (ns : List ℕ) (x : ℕ) (o : Option (List ℕ)) → after (ns ++ x ∷ []) o ≡ after ns (and_then o (λ ms. Some (x ∷ ms)))
after_more ns x None = refl
after_more ns x (Some ms) = ap Some (append_assoc ns (x ∷ []) ms)

pub arguments_step : (ns bs : List ℕ) (most left : ℕ) (a : ℕ × List ℕ) → 0 < left → Some a ≡ argument_of most bs → after (ns ++ a.0 ∷ []) (arguments_of most (left - 1) a.1) ≡ after ns (arguments_of most left bs)
arguments_step ns bs most zero a l e = absurd (omega arith)
arguments_step ns bs most (suc m) a l e =
    let k : suc m - 1 ≡ m = omega arith in
    ap (λ j. after (ns ++ a.0 ∷ []) (arguments_of most j a.1)) k
    ∙ after_more ns a.0 (arguments_of most m a.1)
    ∙ ap (λ o. after ns (and_then o (λ x. and_then (arguments_of most m x.1) (λ ms. Some (x.0 ∷ ms))))) e
