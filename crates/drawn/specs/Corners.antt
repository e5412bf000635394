-- A word is its fields, so a drawn place gives back the words that it was read from.
use Rattle.std.specs.Prelude.{◌≡◌, ℕ, Bool, true, cond, ◌&&◌, List, [], ◌∷◌, map, ◌==◌, nat_le, nat_lt, refl}
use Rattle.std.proofs.Common.{ap, ◌∙◌, arith}
use Rattle.std.specs.List.{AllByRecursion}
use Rattle.std.proofs.lemmas.List.{length-map}
use Rattle.std.proofs.lemmas.Bool.{eqb-true, eq-eqb, and_parts, cond-true}
use Rattle.wordlist.specs.Fields.{field, kind_of}
use Rattle.wordlist.specs.Cutting.{body_of}
use Rattle.listed.specs.declared.floor.Floor.{Floor}
use Rattle.listed.specs.Makes.{GoodBody, Exact}
use Rattle.drawn.specs.Drawings.{corner_of, head_word, corner_word, drawn_make}

head_word_spelled : (w : ℕ) → kind_of w ≡ 2 → field 9 19 w ≡ 0 → head_word (field 0 4 w) (field 4 5 w) ≡ w
head_word_spelled w k u = omega arith

corner_word_spelled : (w : ℕ) → kind_of w ≡ 3 → field 16 12 w ≡ 0 → corner_word (corner_of w) ≡ w
corner_word_spelled w k u = omega arith

-- the last of a word's checks is that no other bit is set
none_set : (a b : Bool) (n : ℕ) → (a && (b && n == 0)) ≡ true → n ≡ 0
none_set a b n e = eqb-true n 0 (and_parts b (n == 0) (and_parts a (b && n == 0) e).1).1

corner_back : (f : Floor) (w : ℕ) → GoodBody drawn_make f w → corner_word (corner_of w) ≡ w
corner_back f w g = corner_word_spelled w g.kind (none_set (nat_lt (field 0 8 w) f.width) (nat_lt (field 8 8 w) f.height) (field 16 12 w) g.sound)

corners_back : (f : Floor) (ws : List ℕ) → AllByRecursion (GoodBody drawn_make f) ws → map corner_word (map corner_of ws) ≡ ws
corners_back f [] a = refl
corners_back f (w ∷ ws) a = ap (λ v. v ∷ map corner_word (map corner_of ws)) (corner_back f w a.0) ∙ ap (λ vs. w ∷ vs) (corners_back f ws a.1)

pub exact : Exact drawn_make
exact f h ws g =
    let whole : body_of h ≡ field 4 5 h = cond-true (kind_of h == 2) (field 4 5 h) (cond (kind_of h == 4) 16 0) (eq-eqb (kind_of h) 2 g.kind) in
    let none = none_set (nat_le 3 (field 4 5 h)) (nat_le (field 4 5 h) 16) (field 9 19 h) g.sound in
    ap (λ n. head_word (field 0 4 h) n ∷ map corner_word (map corner_of ws)) (length-map ws corner_of ∙ g.whole ∙ whole)
    ∙ ap (λ v. v ∷ map corner_word (map corner_of ws)) (head_word_spelled h g.kind none)
    ∙ ap (λ vs. h ∷ vs) (corners_back f ws g.each)
