-- What a cut leaves.
use Rattle.std.proofs.Common.{◌≡◌, ℕ, Bool, true, false, cond, eqb, List, [], ◌∷◌, ◌++◌, take, drop, Some, refl, ap, subst, arith, take-append-drop}
use Rattle.wordlist.specs.Fields.{field, kind_of}
use Rattle.wordlist.specs.Cutting.{Cut, plain, drawn, cells, body_of, cut_of, cut_at, left_of, index_of, words_of}

parts : (two four : Bool) (i h n : ℕ) (rest : List ℕ) →
    let b : ℕ = cond two n (cond four 16 0) in
    let c : Cut = cond two (drawn i h (take b rest)) (cond four (cells i h (take b rest)) (plain i h)) in
    (index_of c ≡ i) × (words_of c ++ drop b rest ≡ h ∷ rest)
parts true four i h n rest = (refl, ap (λ x. h ∷ x) (take-append-drop n rest))
parts false true i h n rest = (refl, ap (λ x. h ∷ x) (take-append-drop 16 rest))
parts false false i h n rest = (refl, refl)

-- the words of a record, and those after it, are the words that were left
pub cut_parts : (i : ℕ) (ws : List ℕ) (c : Cut) → Some c ≡ cut_of i ws → (index_of c ≡ i) × (words_of c ++ left_of ws ≡ ws)
cut_parts i [] c e = absurd (let z : ◌≡◌ {A = ℕ} 0 1 = cc in omega arith)
cut_parts i (h ∷ rest) c e =
    let is : cut_at i h (take (body_of h) rest) ≡ c = cc in
    subst (λ x. (index_of x ≡ i) × (words_of x ++ drop (body_of h) rest ≡ h ∷ rest)) is (parts (eqb (kind_of h) 2) (eqb (kind_of h) 4) i h (field 4 5 h) rest)
