-- An accepted list is exactly the words of the layout that it gave.
use Rattle.std.proofs.Common.{◌≡◌, ℕ, ◌+◌, ◌-◌, ◌≤◌, Bool, true, false, cond, ◌&&◌, eqb, List, [], ◌∷◌, ◌++◌, length, Ok, Err, Result, sym, refl, ap, ◌∙◌, arith, length-append}
use Rattle.std.specs.List.{flat_map, AllByRecursion}
use Rattle.std.proofs.ByRecursion.{All-push}
use Rattle.std.proofs.lemmas.List.{append_assoc, flat_map_more}
use Rattle.std.proofs.lemmas.Bool.{eqb-true, eqb-false, and_parts}
use Rattle.wordlist.specs.declared.faults.RecordFault.{RecordFault}
use Rattle.wordlist.specs.Cutting.{body_of}
use Rattle.wordlist.specs.Fields.{field, kind_of}
use Rattle.wordlist.specs.Outcomes.{given, answered, replaced}
use Rattle.wordlist.specs.Reading.{Answer, read_of}
use Rattle.wordlist.specs.Spelling.{Adds}
use Rattle.wordlist.proofs.Spelling.{read_spelled, read_ends}
use Rattle.listed.specs.declared.floor.Floor.{Floor}
use Rattle.listed.specs.Layouts.{Layout}
use Rattle.listed.specs.Makes.{Make, GoodBody, Exact}
use Rattle.listed.specs.Reading.{Turn, front, head, body, Progress, start, side, floor_of, owing, kind_due, sound_at, taken_at, list_rules, layout_from}
use Rattle.listed.specs.Spelling.{floor_word, spelled}

floor_word_spelled : (w : ℕ) → kind_of w ≡ 1 → field 18 10 w ≡ 0 → floor_word (floor_of w) ≡ w
floor_word_spelled w k u = omega arith

module _ {P : Type 0} (m : Make P) where
  -- the words of a place of which n words are owed
  pub record Begun (f : Floor) (h : ℕ) (ws : List ℕ) (n : ℕ) : Type 0 where
    pub kind : kind_of h ≡ m.head
    pub sound : m.sound_head h ≡ true
    pub each : AllByRecursion (GoodBody m f) ws
    pub left : n + length ws ≡ body_of h

  -- the words of what was read so far
  abbrev written : Turn → Layout P → List ℕ
  written front l = []
  written head l = spelled m l
  written (body h ws n) l = spelled m l ++ (h ∷ ws)

  abbrev written_of : Progress P → List ℕ
  written_of s = written s.turn s.layout

  abbrev GoodAt : Turn → Layout P → Type 0
  GoodAt front l = l.places ≡ []
  GoodAt head l = Unit {0}
  GoodAt (body h ws n) l = Begun l.floor h ws n × (1 ≤ n)

  abbrev Good : Progress P → Type 0
  Good s = GoodAt s.turn s.layout

  module _ (exact : Exact m) where
    abbrev whole_or_not : Bool → Layout P → ℕ → List ℕ → ℕ → Progress P
    whole_or_not b l h ws n =
        cond b
        (record { layout = record { floor = l.floor; places = l.places ++ m.place_of l.floor h ws ∷ [] }; turn = head })
        (record { layout = l; turn = body h ws n })

    grown_writes : (b : Bool) (l : Layout P) (h : ℕ) (ws : List ℕ) (n : ℕ) → eqb n 0 ≡ b → Begun l.floor h ws n → (written_of (whole_or_not b l h ws n) ≡ spelled m l ++ (h ∷ ws)) × Good (whole_or_not b l h ws n)
    grown_writes true l h ws n e g =
        let z : n ≡ 0 = eqb-true n 0 e in
        let all : length ws ≡ body_of h = omega (arith, z, g.left) in
        let x = exact l.floor h ws (record { kind = g.kind; sound = g.sound; each = g.each; whole = all }) in
        let spell = m.spell l.floor in
        (ap (λ v. floor_word l.floor ∷ v) (sym (flat_map_more spell [] l.places (m.place_of l.floor h ws)) ∙ ap (λ v. flat_map spell l.places ++ v) x), tt)
    grown_writes false l h ws n e g = let ne = eqb-false n 0 e in (refl, (g, omega (arith, ne)))

    adds_at : (t : Turn) (l : Layout P) (w : ℕ) → GoodAt t l → eqb (kind_of w) (kind_due m t) ≡ true → sound_at m t l w ≡ true → (written_of (taken_at m t l w) ≡ written t l ++ w ∷ []) × Good (taken_at m t l w)
    adds_at front l w o k v =
        let rest = (and_parts (side (field 0 9 w)) (side (field 9 9 w) && eqb (field 18 10 w) 0) v).1 in
        let none = eqb-true (field 18 10 w) 0 (and_parts (side (field 9 9 w)) (eqb (field 18 10 w) 0) rest).1 in
        (ap (λ ps. floor_word (floor_of w) ∷ flat_map (m.spell (floor_of w)) ps) o ∙ ap (λ x. x ∷ []) (floor_word_spelled w (eqb-true (kind_of w) 1 k) none), tt)
    adds_at head l w o k v =
        grown_writes (eqb (body_of w) 0) l w [] (body_of w) refl (record { kind = eqb-true (kind_of w) m.head k; sound = v; each = tt; left = omega arith })
    adds_at (body h ws n) l w o k v =
        let b = o.0 in
        let more : (n - 1) + length (ws ++ w ∷ []) ≡ body_of h = omega (arith, o.1, b.left, length-append ws (w ∷ [])) in
        let r = grown_writes (eqb (n - 1) 0) l h (ws ++ w ∷ []) (n - 1) refl
        (record { kind = b.kind; sound = b.sound; each = All-push (GoodBody m l.floor) ws w b.each (record { kind = eqb-true (kind_of w) m.body k; sound = v }); left = more }) in
        (r.0 ∙ sym (append_assoc (spelled m l) (h ∷ ws) (w ∷ [])), r.1)

    adds : Adds (list_rules m) written_of Good
    adds s w o p = adds_at s.turn s.layout w o p.turn p.sound

    at_end : (t : Turn) (l : Layout P) → owing t ≡ false → written t l ≡ spelled m l
    at_end front l e = absurd (let z : ◌≡◌ {A = ℕ} 0 1 = cc in omega arith)
    at_end head l e = refl
    at_end (body h ws n) l e = absurd (let z : ◌≡◌ {A = ℕ} 0 1 = cc in omega arith)

    from : (r : Progress P × Answer) (ws : List ℕ) (l : Layout P) → read_of (list_rules m) start ws ≡ r → given (λ s. s.layout) r ≡ Ok l → spelled m l ≡ ws
    from (s, Err f) ws l e g = absurd (let z : ◌≡◌ {A = ℕ} 0 1 = cc in omega arith)
    from (s, Ok u) ws l e g =
        let same : s.layout ≡ l = cc in
        ap (spelled m) (sym same) ∙ sym (at_end s.turn s.layout (read_ends (list_rules m) start s u ws e)) ∙ read_spelled (list_rules m) written_of Good adds start s u ws refl e

    -- writing the layout out again gives the list back
    pub exactly : (ws : List ℕ) (l : Layout P) → layout_from m ws ≡ Ok l → spelled m l ≡ ws
    exactly ws l e = from (read_of (list_rules m) start ws) ws l refl e

    exactly_given : (r : Result (Layout P) RecordFault) (ws : List ℕ) (old l : Layout P) (a : Answer) → layout_from m ws ≡ r → a ≡ answered r → l ≡ replaced old r → a ≡ Ok tt → spelled m l ≡ ws
    exactly_given (Ok x) ws old l a e is now ok = ap (spelled m) now ∙ exactly ws x e
    exactly_given (Err f) ws old l a e is now ok = absurd (let z : ◌≡◌ {A = ℕ} 0 1 = cc in omega arith)

    -- the same of a reading that was accepted
    pub exactly_after : (ws : List ℕ) (old l : Layout P) (a : Answer) → a ≡ answered (layout_from m ws) → l ≡ replaced old (layout_from m ws) → a ≡ Ok tt → spelled m l ≡ ws
    exactly_after ws old l a is now ok = exactly_given (layout_from m ws) ws old l a refl is now ok
