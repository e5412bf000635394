-- `replay`: the calls before this one were answered, and there is room for the answers to the others.
use Rattle.std.proofs.Common.{◌≡◌, ◌≤◌, length, take, vec_items, vec_len, vec_capacity}
use Rattle.guard.specs.Runs.{Replays}
use Rattle.guard.proofs.guard.Guard.replay.Given as goal

abbrev pub invariant-loop-call : goal.invariant-loop-call
invariant-loop-call g l =
    Replays (g.P.Plan.hall l.initial.self.site.plan) l.initial.self l.self (take l.call-index l.calls) (vec_items l.answers)
    × ((vec_len l.answers ≡ l.call-index) × (length l.calls ≤ vec_capacity l.answers))
