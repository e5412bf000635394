-- Ancestors in a sealed policy are a preorder of its roles.
use Rattle.std.proofs.Common.{◌≡◌, ℕ, true}
use Rattle.plan.specs.Lying.{lies_in}
use Rattle.survey.proofs.Lying.{lies_itself, lies_on}
use Rattle.policy.specs.Contents.{Content, role_at}
use Rattle.policy.specs.Facts.{Upward}
use Rattle.rights.specs.Reach.{reaches}
use Rattle.rights.proofs.Ancestral.{parts, whole}
use Rattle.rights.proofs.Reaching.{reached_from, itself, reached_on, reaches_from}
use Rattle.sealing.specs.Laws.{SealedLineage}
use Rattle.sealing.proofs.Reading.{sealing_kept}

-- what is reached from a reached schema is reached
reaches_on : (c : Content) → Upward c.parents → (s t a : ℕ) → reaches c s t ≡ true → reaches c t a ≡ true → reaches c s a ≡ true
reaches_on c upward s t a h k = reaches_from c upward s a (reached_on c s t a (reached_from c s t s h) (reached_from c t a t k))

pub sealed_lineage : SealedLineage
sealed_lineage h ws c sealed = record {
  itself = λ r l. whole c (reaches c) (lies_in h) r r l l (itself c (role_at c r).schema (role_at c r).schema) (lies_itself h (role_at c r).extent);
  on = λ r a e low high.
      let v = parts c (reaches c) (lies_in h) r a low in
      let w = parts c (reaches c) (lies_in h) a e high in
      whole c (reaches c) (lies_in h) r e v.0 w.1
      (reaches_on c (sealing_kept h ws c sealed).0 (role_at c r).schema (role_at c a).schema (role_at c e).schema v.2 w.2)
      (lies_on h (role_at c r).extent (role_at c a).extent (role_at c e).extent v.3 w.3);
}
