-- `apply`: an event changes one session at most.
use Rattle.std.proofs.Common.{rules, arith, sym, ap, ◌∙◌}
use Rattle.calls.specs.Kept.{standing_of}
use Rattle.calls.specs.Standing.{moved_within}
use Rattle.calls.specs.declared.call.Event.TheVariants.{Activate, Drop}
use Rattle.calls.proofs.Sessions.{changed, activates, releases}
use Rattle.calls.proofs.badge.Badge.apply.Goals as goal

pub returns-in-Activate : goal.returns-in-Activate
returns-in-Activate c =
    let k = c.args.self.now in
    let s = c.in-Activate.session in
    let r = c.in-Activate.role in
    let left = c.change-in-Activate in
    changed k left.new.self s (Activate s r) _ left.ensures.track left.ensures.sessions
    (λ l new told. let does = told.met in activates k s r new l (search (rules, arith)) (search rules) (search rules))
    (λ p. search (rules, arith))
    ∙ sym (ap (λ e. moved_within e (standing_of k)) c.in-Activate.is)

pub returns-in-Drop : goal.returns-in-Drop
returns-in-Drop c =
    let k = c.args.self.now in
    let s = c.in-Drop.session in
    let r = c.in-Drop.role in
    let left = c.change-in-Drop in
    changed k left.new.self s (Drop s r) _ left.ensures.track left.ensures.sessions
    (λ l new told. let does = told.met in releases k s r new l (search (rules, arith)) (search rules) (search rules))
    (λ p. search (rules, arith))
    ∙ sym (ap (λ e. moved_within e (standing_of k)) c.in-Drop.is)
