-- What an accepted sealing comes to.
use Rattle.std.proofs.Common.{◌≡◌, ℕ, true, false, List, Ok, Err, Result, sym, ap, ◌∙◌, ⊎_elim, arith}
use Rattle.std.proofs.lemmas.Bool.{cases_Bool, lt-ltb}
use Rattle.plan.specs.Hall.{Hall}
use Rattle.policy.specs.Contents.{Content}
use Rattle.checks.specs.declared.faults.SealFault.{SealFault}
use Rattle.checks.specs.declared.faults.SealFault.TheVariants.{Sealed}
use Rattle.calls.specs.Standing.{nothing_yet}
use Rattle.sealing.specs.Ground.{Ground, ground_of, ground_after}
use Rattle.sealing.specs.Outcome.{sealing, is_sealed, sealing_after, sealed_or}
use Rattle.sealing.proofs.Fitting.{sealed_fits}
use Rattle.sealing.proofs.Reading.{sealing_read}
use Rattle.sealing.proofs.Lineages.{sealed_lineage}
use Rattle.site.proofs.Sealings.{read_has_badges}
use Rattle.guard.specs.declared.guard.Guard.{Guard}
use Rattle.guard.specs.Kept.{kept_of, ground_in}
use Rattle.guard.specs.Stands.{Begins}

-- what was sealed is what the ground says now
pub sealed_content : (o : Result Content SealFault) (old : Ground) (h : Hall) (new : Ground) → Ok tt ≡ sealed_or o → new ≡ ground_after old h o → (o ≡ Ok new.content) × (new ≡ ground_of h new.content)
sealed_content (Ok c) old h new a e =
    let same : c ≡ new.content = sym (ap (λ (g : Ground). g.content) e) in
    (ap Ok same, e ∙ ap (ground_of h) same)
sealed_content (Err f) old h new a e = absurd (let z : ◌≡◌ {A = ℕ} 0 1 = cc in omega arith)

-- an accepted sealing came first
pub sealed_first : (before : Content) (h : Hall) (ws : List ℕ) (c : Content) → sealing_after before h ws ≡ Ok c → sealing h ws ≡ Ok c
sealed_first before h ws c e =
    ⊎_elim
    (λ (z : is_sealed before ≡ true). absurd (let o : Err Sealed ≡ Ok c = rw z at e in let y : ◌≡◌ {A = ℕ} 0 1 = cc in omega arith))
    (λ (z : is_sealed before ≡ false). rw z at e)
    (cases_Bool (is_sealed before))

pub begins_from : {P : Type 0} (h : Hall) (g : Guard P) (before : Content) (old : Ground) (ws : List ℕ) → Ok tt ≡ sealed_or (sealing_after before h ws) → ground_in h g ≡ ground_after old h (sealing_after before h ws) → ((b : ℕ) → kept_of g b ≡ nothing_yet) → Begins h g ws
begins_from h g before old ws ok after kept =
    let at = sealed_content (sealing_after before h ws) old h (ground_in h g) ok after in
    let is = sealed_first before h ws (ground_in h g).content at.0 in
    let some_worn : (ground_in h g).content.badges ≡ 0 → ⊥ = read_has_badges ws (ground_in h g).content (sealing_read h ws (ground_in h g).content is) in
    record {
      sealed = lt-ltb 0 (ground_in h g).content.badges (omega (arith, some_worn));
      stands = record { sealed = is; grounded = at.1; agrees = kept };
      fits = sealed_fits h ws (ground_in h g).content is;
      lineage = sealed_lineage h ws (ground_in h g).content is;
    }
