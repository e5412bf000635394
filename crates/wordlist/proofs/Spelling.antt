-- An accepted list is the words of what it gave, if each word adds itself.
use Rattle.std.proofs.Common.{◌≡◌, ℕ, ◌+◌, Bool, true, false, cond, List, [], ◌∷◌, ◌++◌, length, Ok, Err, sym, refl, ap, ◌∙◌, subst, arith}
use Rattle.std.proofs.lemmas.List.{append-nil, append_assoc}
use Rattle.std.proofs.lemmas.Bool.{cond-true}
use Rattle.wordlist.specs.declared.faults.RecordFault.{RecordFault}
use Rattle.wordlist.specs.declared.faults.RecordFault.TheVariants.{Word}
use Rattle.wordlist.specs.declared.faults.WordFault.TheVariants.{Short}
use Rattle.wordlist.specs.Reading.{Rules, Answer, judge, onward, run, ended, read_of}
use Rattle.wordlist.specs.Fields.{kind_of}
use Rattle.wordlist.specs.Spelling.{Passes, Adds, Reads}
use Rattle.wordlist.proofs.Runs.{part_taken}

chosen : (a b c d : Bool) (f₁ f₂ f₃ f₄ : RecordFault) (u : Unit {0}) → ◌≡◌ {A = Answer} (cond a (cond b (cond c (cond d (Ok tt) (Err f₄)) (Err f₃)) (Err f₂)) (Err f₁)) (Ok u) → (a ≡ true) × (b ≡ true) × (c ≡ true) × (d ≡ true)
chosen true true true true f₁ f₂ f₃ f₄ u e = (refl, refl, refl, refl)
chosen true true true false f₁ f₂ f₃ f₄ u e = absurd (let z : ◌≡◌ {A = ℕ} 0 1 = cc in omega arith)
chosen true true false d f₁ f₂ f₃ f₄ u e = absurd (let z : ◌≡◌ {A = ℕ} 0 1 = cc in omega arith)
chosen true false c d f₁ f₂ f₃ f₄ u e = absurd (let z : ◌≡◌ {A = ℕ} 0 1 = cc in omega arith)
chosen false b c d f₁ f₂ f₃ f₄ u e = absurd (let z : ◌≡◌ {A = ℕ} 0 1 = cc in omega arith)

module _ {S : Type 0} (g : Rules S) where
  passes_from : (s : S) (i w : ℕ) (u : Unit {0}) → judge g s i w ≡ Ok u → Passes g s w
  passes_from s i w u e =
      let p = chosen (g.member (kind_of w)) (g.turn s w) (g.room s w) (g.sound s w) _ _ _ _ u e in
      record { member = p.0; turn = p.1; room = p.2; sound = p.3 }

  judge_from : (s : S) (i w : ℕ) → Passes g s w → judge g s i w ≡ Ok tt
  judge_from s i w p =
      cond-true _ _ _ p.member ∙ cond-true _ _ _ p.turn ∙ cond-true _ _ _ p.room ∙ cond-true _ _ _ p.sound

  -- a word that passes is taken
  pub reads_one : (s : S) (w : ℕ) → Passes g s w → Reads g s (w ∷ []) (g.taken s w)
  reads_one s w p i = ap (λ a. onward a s (g.taken s w, Ok tt)) (judge_from s i w p)

  pub reads_append : (s t u : S) (xs ys : List ℕ) → Reads g s xs t → Reads g t ys u → Reads g s (xs ++ ys) u
  reads_append s t u xs ys a b i = part_taken g s t i tt xs ys (sym (a i)) ∙ b (i + length xs)

  -- a list that may end there is accepted
  pub accepted_from : (s t : S) (ws : List ℕ) → Reads g s ws t → g.owes t ≡ false → read_of g s ws ≡ (t, Ok tt)
  accepted_from s t ws r o = ap (ended g (length ws)) (r 0) ∙ ap (λ b. (t, cond b (Err (Word (Short (length ws)))) (Ok tt))) o

  module _ (spelled : S → List ℕ) (Good : S → Type 0) (adds : Adds g spelled Good) where
    at : (a : Answer) (s t : S) (i w : ℕ) (u : Unit {0}) (ws : List ℕ) → Good s → judge g s i w ≡ a
        → ((r : S) → Good r → run g r (i + 1) ws ≡ (t, Ok u) → (spelled t ≡ spelled r ++ ws) × Good t)
        → onward a s (run g (g.taken s w) (i + 1) ws) ≡ (t, Ok u) → (spelled t ≡ spelled s ++ (w ∷ ws)) × Good t
    at (Err f) s t i w u ws o j ih e = absurd (let q : ◌≡◌ {A = Answer} (Err f) (Ok u) = ap (λ p. p.1) e in let z : ◌≡◌ {A = ℕ} 0 1 = cc in omega arith)
    at (Ok v) s t i w u ws o j ih e =
        let a = adds s w o (passes_from s i w v j) in
        let r = ih (g.taken s w) a.1 e in
        (r.0 ∙ ap (λ x. x ++ ws) a.0 ∙ append_assoc (spelled s) (w ∷ []) ws, r.1)

    pub run_spelled : (s t : S) (i : ℕ) (u : Unit {0}) (ws : List ℕ) → Good s → run g s i ws ≡ (t, Ok u) → (spelled t ≡ spelled s ++ ws) × Good t
    run_spelled s t i u [] o e =
        let same : s ≡ t = ap (λ p. p.0) e in
        (ap spelled (sym same) ∙ sym (append-nil (spelled s)), subst Good same o)
    run_spelled s t i u (w ∷ ws) o e = at (judge g s i w) s t i w u ws o refl (λ r o' e'. run_spelled r t (i + 1) u ws o' e') e

    ended_run : (r : S × Answer) (n : ℕ) (t : S) (u : Unit {0}) → ended g n r ≡ (t, Ok u) → r ≡ (t, Ok tt)
    ended_run (s, Err f) n t u e = absurd (let q : ◌≡◌ {A = Answer} (Err f) (Ok u) = ap (λ p. p.1) e in let z : ◌≡◌ {A = ℕ} 0 1 = cc in omega arith)
    ended_run (s, Ok v) n t u e = ap (λ x. (x, Ok tt)) (ap (λ p. p.0) e)

    -- an accepted list is the words of what it gave
    pub read_spelled : (s t : S) (u : Unit {0}) (ws : List ℕ) → Good s → read_of g s ws ≡ (t, Ok u) → spelled t ≡ spelled s ++ ws
    read_spelled s t u ws o e = (run_spelled s t 0 tt ws o (ended_run (run g s 0 ws) (length ws) t u e)).0

  ends_cond : (b : Bool) (s t : S) (f : RecordFault) (u : Unit {0}) → ◌≡◌ {A = S × Answer} (s, cond b (Err f) (Ok tt)) (t, Ok u) → b ≡ false
  ends_cond false s t f u e = refl
  ends_cond true s t f u e = absurd (let q : ◌≡◌ {A = Answer} (Err f) (Ok u) = ap (λ p. p.1) e in let z : ◌≡◌ {A = ℕ} 0 1 = cc in omega arith)

  ends_at : (r : S × Answer) (n : ℕ) (t : S) (u : Unit {0}) → ended g n r ≡ (t, Ok u) → g.owes t ≡ false
  ends_at (s, Err f) n t u e = absurd (let q : ◌≡◌ {A = Answer} (Err f) (Ok u) = ap (λ p. p.1) e in let z : ◌≡◌ {A = ℕ} 0 1 = cc in omega arith)
  ends_at (s, Ok v) n t u e =
      let same : s ≡ t = ap (λ p. p.0) e in
      sym (ap (λ x. g.owes x) same) ∙ ends_cond (g.owes s) s t (Word (Short n)) u e

  -- an accepted list may end where it ends
  pub read_ends : (s t : S) (u : Unit {0}) (ws : List ℕ) → read_of g s ws ≡ (t, Ok u) → g.owes t ≡ false
  read_ends s t u ws e = ends_at (run g s 0 ws) (length ws) t u e
