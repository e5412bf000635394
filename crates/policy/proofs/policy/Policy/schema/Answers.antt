use Rattle.std.proofs.Common.{vec_items, rules}
use Rattle.policy.proofs.Growing.{record_or}
use Rattle.policy.proofs.policy.Policy.schema.Goals as goal

pub returns : goal.returns
returns c = record_or (vec_items c.args.self.now.kept.schemas.records) c.args.k _ c.unwrap_or_default.result (record { extent = 0; logic = 0; patience = 0 }) (λ p. search rules) (rw c.get.ensures at c.unwrap_or_default.ensures)
