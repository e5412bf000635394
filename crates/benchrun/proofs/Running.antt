-- Lines of an input, one after another.
use Rattle.std.proofs.Common.{◌≡◌, ℕ, Bool, false, cond, List, [], ◌∷◌, ◌++◌, codes, Option, sym, ap, ◌∙◌, subst, arith}
use Rattle.std.proofs.lemmas.List.{append_assoc, append-nil}
use Rattle.plan.specs.Hall.{Hall}
use Rattle.policy.specs.Contents.{Content}
use Rattle.calls.specs.declared.call.Call.{Call}
use Rattle.sealing.specs.Ground.{ground_of}
use Rattle.site.specs.declared.site.Site.{Site}
use Rattle.guard.specs.declared.guard.Guard.{Guard}
use Rattle.guard.specs.Stands.{Stands}
use Rattle.benchlines.specs.Input.{lines_of}
use Rattle.benchlines.specs.Lines.{line_call}
use Rattle.benchrun.specs.Printed.{calls_of, ended, line_texts, line_text, too_long, with_call, with_calls, printed}

module _ {P : Type 0} (h : Hall) where
  -- the guard stands after the calls of the first of the lines, with the text so far, and these lines are left
  pub record Reached (ws : List ℕ) (c : Content) (g : Guard P) (lines : List (List ℕ)) (text : List ℕ) (left : List (List ℕ)) : Type 0 where
    pub past : List Call
    pub stands : Stands h ws c past g
    pub prints : text ++ line_texts (ground_of h c) past left ≡ line_texts (ground_of h c) [] lines
    pub calls : with_calls left past ≡ with_calls lines []

  -- the guard g came to g' so far
  pub record GoesSo (g g' : Guard P) (lines : List (List ℕ)) (text : List ℕ) (left : List (List ℕ)) : Type 0 where
    pub site : g'.site ≡ g.site
    pub law : (ws : List ℕ) (c : Content) → Stands h ws c [] g → Reached ws c g' lines text left

  -- the text of the line was added, and its call made
  abbrev pub Adds : Guard P → Guard P → Option Call → List ℕ → List ℕ → Type 0
  Adds g g' call old new =
      (ws : List ℕ) (c : Content) (calls : List Call) → Stands h ws c calls g
      → (new ≡ old ++ line_text (ground_of h c) calls call) × Stands h ws c (with_call call calls) g'

  -- with no line left, all is printed, and all calls are made
  pub all_printed :
      (g g' : Guard P) (input text : List ℕ) (left : List (List ℕ)) → left ≡ [] → false ≡ too_long input
      → GoesSo g g' (lines_of input) text left
      → (ws : List ℕ) (c : Content) → Stands h ws c [] g → (text ≡ printed (ground_of h c) input) × Stands h ws c (calls_of input) g'
  all_printed g g' input text [] none short so ws c st =
      let at = so.law ws c st in
      let all : text ≡ line_texts (ground_of h c) [] (lines_of input) = sym (append-nil text) ∙ at.prints in
      let made : at.past ≡ with_calls (lines_of input) [] = at.calls in (
        all ∙ ap (λ (b : Bool). cond b (ended (codes "long")) (line_texts (ground_of h c) [] (lines_of input))) short,
        subst (λ (past : List Call). Stands h ws c past g') (made ∙ ap (λ (b : Bool). cond b [] (with_calls (lines_of input) [])) short) at.stands,
      )
  all_printed g g' input text (l ∷ ls) none short so ws c st = absurd (let z : ◌≡◌ {A = ℕ} 0 1 = cc in omega arith)

module _ {P : Type 0} (h : P → Hall) (g g' g'' : Guard P) (lines : List (List ℕ)) (text text'' : List ℕ) (line : List ℕ) (ms rest : List (List ℕ)) where
  -- one line more
  pub one_more :
      line ∷ rest ≡ ms → GoesSo (h g.site.plan) g g' lines text ms
      → g''.site ≡ g'.site
      → Adds (h g'.site.plan) g' g'' (line_call line) text text''
      → GoesSo (h g.site.plan) g g'' lines text'' rest
  one_more is so same on =
      let hall : h g'.site.plan ≡ h g.site.plan = ap (λ (s : Site P). h s.plan) so.site in
      let on' : Adds (h g.site.plan) g' g'' (line_call line) text text'' = subst (λ (x : Hall). Adds x g' g'' (line_call line) text text'') hall on in
      record {
        site = same ∙ so.site;
        law = λ ws c st.
            let at = so.law ws c st in
            let past = at.past in
            let gr = ground_of (h g.site.plan) c in
            let next = on' ws c past at.stands in
            record {
              past = with_call (line_call line) past;
              stands = next.1;
              prints =
                  ap (λ (t : List ℕ). t ++ line_texts gr (with_call (line_call line) past) rest) next.0
                  ∙ append_assoc text (line_text gr past (line_call line)) (line_texts gr (with_call (line_call line) past) rest)
                  ∙ ap (λ (ls : List (List ℕ)). text ++ line_texts gr past ls) is
                  ∙ at.prints;
              calls = ap (λ (ls : List (List ℕ)). with_calls ls past) is ∙ at.calls;
            };
      }
