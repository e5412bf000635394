-- What holds of a policy that was read from words, and that a sealed one was read and has no fault.
use Rattle.std.proofs.Common.{◌≡◌, ℕ, ◌+◌, ◌<◌, ◌≤◌, Bool, true, false, cond, eqb, List, [], ◌∷◌, length, Some, None, Ok, Err, Option, Result, sym, refl, ap, ◌∙◌, subst, arith}
use Rattle.std.proofs.lemmas.Bool.{eqb-true}
use Rattle.std.proofs.lemmas.List.Elements.{All-push}
use Rattle.wordlist.specs.declared.faults.RecordFault.{RecordFault}
use Rattle.wordlist.specs.declared.faults.RecordFault.TheVariants.{Word, OutOfTurn, Full, BadField}
use Rattle.wordlist.specs.declared.faults.WordFault.TheVariants.{Short, Foreign}
use Rattle.wordlist.specs.Fields.{kind_of}
use Rattle.wordlist.specs.Outcomes.{given}
use Rattle.wordlist.specs.Reading.{Answer, judge, onward, run, ended}
use Rattle.records.specs.declared.kinds.Schema.{Schema}
use Rattle.records.specs.declared.kinds.Parent.{Parent}
use Rattle.records.specs.declared.kinds.Role.{Role}
use Rattle.records.specs.Words.{schema_of, parent_of, role_of}
use Rattle.plan.specs.Hall.{Hall}
use Rattle.policy.specs.Contents.{Content, none}
use Rattle.policy.specs.Facts.{Upward, SchemasIn}
use Rattle.policy.specs.Reading.{content_from}
use Rattle.policy.specs.Rules.{policy_rules, grown, sound_as, with_as}
use Rattle.policy.proofs.Growing.{longer, below_more}
use Rattle.policy.proofs.Turns.{sound_parent_turn, sound_role_turn}
use Rattle.checks.specs.declared.faults.SealFault.{SealFault}
use Rattle.checks.specs.Sight.{sight_of}
use Rattle.checks.specs.Faults.{first_fault}
use Rattle.sealing.specs.Outcome.{unless, allowed, sealing}

-- each parent is below its child, and the schema of each role is in use
abbrev pub Kept : Content → Type 0
Kept c = Upward c.parents × SchemasIn (length c.schemas) c.roles

-- lists of records with one more, or as they were
upward_grown : (b : Bool) (ps : List Parent) (p : Parent) → Upward ps → (b ≡ true → p.parent < p.child) → Upward (grown b ps p)
upward_grown true ps p h ok = All-push (λ (q : Parent). q.parent < q.child) ps p h (ok refl)
upward_grown false ps p h ok = h

longer_grown : (b : Bool) (ss : List Schema) (s : Schema) → length ss ≤ length (grown b ss s)
longer_grown true ss s = longer ss s
longer_grown false ss s = omega arith

schemas_grown : (b : Bool) (n : ℕ) (rs : List Role) (r : Role) → SchemasIn n rs → (b ≡ true → r.schema < n) → SchemasIn n (grown b rs r)
schemas_grown true n rs r h ok = All-push (λ (q : Role). q.schema < n) rs r h (ok refl)
schemas_grown false n rs r h ok = h

module _ (c : Content) (w : ℕ) where
  -- a record whose fields are good keeps it so
  kept_with : (k : ℕ) → Kept c → sound_as k c w ≡ true → Kept (with_as k c w)
  kept_with k kept sound = (
    upward_grown (eqb k 9) c.parents (parent_of w) kept.0 (λ e. (sound_parent_turn (length c.schemas) w (of 9 e)).0),
    below_more (λ x. x.schema) (length c.schemas) (length (grown (eqb k 8) c.schemas (schema_of w))) (grown (eqb k 10) c.roles (role_of w)) (longer_grown (eqb k 8) c.schemas (schema_of w))
        (schemas_grown (eqb k 10) (length c.schemas) c.roles (role_of w) kept.1 (λ e. (sound_role_turn (length c.schemas) w (of 10 e)).0)),
  )
    where
      of : (n : ℕ) → eqb k n ≡ true → sound_as n c w ≡ true
      of n e = ap (λ m. sound_as m c w) (sym (eqb-true k n e)) ∙ sound

-- a test that was passed, and what came after it
after : (b : Bool) (x : Answer) (f : RecordFault) (u : Unit {0}) → cond b x (Err f) ≡ Ok u → (b ≡ true) × (x ≡ Ok u)
after true x f u e = (refl, e)
after false x f u e = (cc, cc)

-- the fields of a word that breaks no rule are good
sound_from : (c : Content) (i w : ℕ) (u : Unit {0}) → judge policy_rules c i w ≡ Ok u → sound_as (kind_of w) c w ≡ true
sound_from c i w u e =
    let turn = after (policy_rules.member (kind_of w)) _ (Word (Foreign i)) u e in
    let room = after (policy_rules.turn c w) _ (OutOfTurn i) u turn.1 in
    let sound = after (policy_rules.room c w) _ (Full i) u room.1 in
    (after (sound_as (kind_of w) c w) (Ok tt) (BadField i) u sound.1).0

-- one word of a reading, and then the others
kept_on : (a : Answer) (s t : Content) (i w : ℕ) (u : Unit {0}) (ws : List ℕ) → Kept s → judge policy_rules s i w ≡ a
    → ((r : Content) → Kept r → run policy_rules r (i + 1) ws ≡ (t, Ok u) → Kept t)
    → onward a s (run policy_rules (with_as (kind_of w) s w) (i + 1) ws) ≡ (t, Ok u) → Kept t
kept_on (Err f) s t i w u ws kept j rest e = absurd (let q : ◌≡◌ {A = Answer} (Err f) (Ok u) = ap (λ p. p.1) e in let z : ◌≡◌ {A = ℕ} 0 1 = cc in omega arith)
kept_on (Ok v) s t i w u ws kept j rest e = rest (with_as (kind_of w) s w) (kept_with s w (kind_of w) kept (sound_from s i w v j)) e

kept_run : (s t : Content) (i : ℕ) (u : Unit {0}) (ws : List ℕ) → Kept s → run policy_rules s i ws ≡ (t, Ok u) → Kept t
kept_run s t i u [] kept e = let same : s ≡ t = ap (λ p. p.0) e in subst Kept same kept
kept_run s t i u (w ∷ ws) kept e = kept_on (judge policy_rules s i w) s t i w u ws kept refl (λ r. kept_run r t (i + 1) u ws) e

kept_none : Kept none
kept_none = ((λ k d l. absurd (omega arith)), (λ k d l. absurd (omega arith)))

-- a list that was accepted owes nothing, and gives what was read
owed : (b : Bool) (s c : Content) (f : RecordFault) → given (λ x. x) (s, cond b (Err f) (Ok tt)) ≡ Ok c → s ≡ c
owed true s c f e = cc
owed false s c f e = cc

kept_given : (r : Content × Answer) (ws : List ℕ) (c : Content) → run policy_rules none 0 ws ≡ r → given (λ x. x) (ended policy_rules (length ws) r) ≡ Ok c → Kept c
kept_given (s, Err f) ws c e g = absurd (let z : ◌≡◌ {A = ℕ} 0 1 = cc in omega arith)
kept_given (s, Ok u) ws c e g = subst Kept (owed (eqb s.badges 0) s c (Word (Short (length ws))) g) (kept_run none s 0 u ws kept_none e)

-- a policy that was read
pub read_kept : (ws : List ℕ) (c : Content) → content_from ws ≡ Ok c → Kept c
read_kept ws c e = kept_given (run policy_rules none 0 ws) ws c refl e

-- what was allowed was read, and has no fault
unless_parts : (o : Option SealFault) (d c : Content) → unless o d ≡ Ok c → (o ≡ None) × (d ≡ c)
unless_parts None d c e = (refl, cc)
unless_parts (Some f) d c e = (cc, cc)

allowed_parts : (h : Hall) (r : Result Content RecordFault) (c : Content) → allowed h r ≡ Ok c → (r ≡ Ok c) × (first_fault (sight_of h) c ≡ None)
allowed_parts h (Err f) c e = (cc, cc)
allowed_parts h (Ok d) c e =
    let p = unless_parts (first_fault (sight_of h) d) d c e in
    (ap Ok p.1, ap (first_fault (sight_of h)) (sym p.1) ∙ p.0)

module _ (h : Hall) (ws : List ℕ) (c : Content) (sealed : sealing h ws ≡ Ok c) where
  -- a sealed policy was read
  pub sealing_read : content_from ws ≡ Ok c
  sealing_read = (allowed_parts h (content_from ws) c sealed).0

  -- and no check finds a fault in it
  pub sealing_clear : first_fault (sight_of h) c ≡ None
  sealing_clear = (allowed_parts h (content_from ws) c sealed).1

  -- what reading keeps holds of it
  pub sealing_kept : Kept c
  sealing_kept = read_kept ws c sealing_read
