-- An array that is filled from its front with what words say.
use Rattle.std.proofs.Common.{◌≡◌, ℕ, ◌+◌, ◌-◌, ◌<◌, List, [], ◌∷◌, ◌++◌, map, length, get_or, take, drop, set, replicate, sym, ap, ◌∙◌, arith, take-append-drop}
use Rattle.std.proofs.lemmas.List.{map_push, take_more, take_more_set, drop-set-lt, drop-drop, drop-replicate}
use Rattle.listed.specs.Padding.{padded}

module _ {X : Type 0} (said : ℕ → X) where
  -- the first i elements are what the words say, and the others what zero says
  pub record Filling (i : ℕ) (xs : List X) (ws : List ℕ) : Type 0 where
    pub front : take i xs ≡ map said (take i ws)
    pub rest : drop i xs ≡ replicate (16 - i) (said 0)
    pub long : length xs ≡ 16

  pub filling_more : (xs : List X) (ws : List ℕ) (i : ℕ) (x : X) → i < 16 → i < length ws → x ≡ said (get_or ws i 0) → length (set xs i x) ≡ 16 → Filling i xs ws → Filling (i + 1) (set xs i x) ws
  filling_more xs ws i x room there is long f = record {
    front =
        take_more_set xs i x (omega (arith, f.long))
        ∙ ap (λ ys. ys ++ x ∷ []) f.front
        ∙ ap (λ y. map said (take i ws) ++ y ∷ []) is
        ∙ sym (map_push said (take i ws) (get_or ws i 0))
        ∙ sym (ap (map said) (take_more ws i 0 there));
    rest =
        let less : 16 - i - 1 ≡ 16 - (i + 1) = omega arith in
        drop-set-lt (i + 1) xs i x (omega arith) ∙ sym (drop-drop 1 i xs) ∙ ap (drop 1) f.rest ∙ drop-replicate 1 (16 - i) (said 0) ∙ ap (λ n. replicate n (said 0)) less;
    long = long;
  }

  pub filling_whole : (n : ℕ) (xs : List X) (ws : List ℕ) → Filling n xs ws → xs ≡ padded said n ws
  filling_whole n xs ws f = sym (take-append-drop n xs) ∙ ap (λ ys. ys ++ drop n xs) f.front ∙ ap (λ ys. map said (take n ws) ++ ys) f.rest
