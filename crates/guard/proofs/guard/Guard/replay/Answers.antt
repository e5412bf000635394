-- `replay`: one call more, and the end of the calls.
use Rattle.std.proofs.Common.{◌≡◌, ℕ, vec_items, sym, subst, arith}
use Rattle.std.proofs.lemmas.List.{take_all}
use Rattle.guard.specs.Runs.{Replays}
use Rattle.guard.proofs.Running.{replays_none, replays_more}
use Rattle.guard.proofs.guard.Guard.replay.Goals as goal

pub loop-call-init : goal.loop-call-init
loop-call-init g c =
    let v = c.args.self.now in
    let new = c.in_ok-answers.ensures in
    (subst (λ xs. Replays (g.P.Plan.hall v.site.plan) v v _ xs) (sym new.items) (replays_none (g.P.Plan.hall v.site.plan) v), (new.len, new.capacity))

pub push_reserved-requires : goal.push_reserved-requires
push_reserved-requires g c = omega (arith, c.loop-call.invariant.1.0, c.loop-call.invariant.1.1, c.loop-call-test.true)

pub loop-call-preserved : goal.loop-call-preserved
loop-call-preserved g c =
    let pushed = c.push_reserved.ensures in (
      replays_more g.P.Plan.hall c.args.self.now c.loop-call.self _ c.args.calls.now c.loop-call.call-index _ _ _ _ c.loop-call-test.true c.loop-call.invariant.0 c.perform-answer.ensures.performs pushed.items,
      (omega (arith, pushed.len, c.loop-call.invariant.1.0), omega (arith, pushed.capacity, c.loop-call.invariant.1.1)),
    )

pub returns : goal.returns
returns g c =
    let v = c.args.self.now in
    record {
      answers = subst (λ cs. Replays (g.P.Plan.hall v.site.plan) v c.loop-call.self cs (vec_items c.loop-call.answers))
          (take_all c.loop-call.call-index c.args.calls.now c.loop-call-test.false) c.loop-call.invariant.0;
      same = λ e. absurd (let z : ◌≡◌ {A = ℕ} 0 1 = cc in omega arith);
    }
