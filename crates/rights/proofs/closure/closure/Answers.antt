-- `closure`: one record more, and the end.
use Rattle.std.proofs.Common.{List, length, slice_index_or, ap, arith, length-set}
use Rattle.records.specs.declared.kinds.Parent.{Parent}
use Rattle.policy.specs.Policies.{says}
use Rattle.policy.proofs.Standing.{parents_rise}
use Rattle.rights.proofs.Counts.{child_in}
use Rattle.rights.proofs.Closing.{closed_by, closed_all}
use Rattle.rights.proofs.closure.closure.Goals as goal

pub loop-step-preserved : goal.loop-step-preserved
loop-step-preserved c =
    let p = c.args.policy.now in
    let k = c.loop-step.step-index in
    let all = ap (λ (ps : List Parent). length ps) c.parents-step-items.ensures in
    let same = ap (λ (ps : List Parent). slice_index_or ps k (record { parent = 0; child = 0 })) c.parents-step-items.ensures in (
      simp length-set c.loop-step.invariant.0,
      closed_by (says p) p.kept.upward (parents_rise p.kept) k c.loop-step.rows c.or.result _ same (omega arith) c.loop-step.invariant.0 c.loop-step.invariant.1 (child_in p k (omega arith)) c.or.ensures,
    )

pub returns : goal.returns
returns c =
    let all = ap (λ (ps : List Parent). length ps) c.parents-step-items.ensures in
    closed_all (says c.args.policy.now) c.args.policy.now.kept.upward c.loop-step.rows c.loop-step.step-index (omega arith) c.loop-step.invariant.1
