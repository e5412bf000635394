use Rattle.std.proofs.Common.{true, false, sym, ◌∙◌}
use Rattle.policy.specs.Contents.{content_of}
use Rattle.policy.proofs.Numbers.{turn_first, turn_later}
use Rattle.policy.proofs.charter.reading.CharterWordList.in_turn.Goals as goal

pub returns-then-self-eq0 : goal.returns-then-self-eq0
returns-then-self-eq0 c = turn_first (content_of c.args.self.now) c.args.word c.in-Some.kind (sym c.of.ensures ∙ c.in-Some.is) c.eq.result c.if-self-eq0.true c.eq.ensures

pub returns-then-in_order : goal.returns-then-in_order
returns-then-in_order c = turn_later (content_of c.args.self.now) c.args.word c.in-Some.kind (sym c.of.ensures ∙ c.in-Some.is) c.least_kind.result c.rises.result true c.if-self-eq0.false c.least_kind.ensures (sym c.if-in_order.true ∙ c.le-in_order.ensures) c.rises.ensures

pub returns-else-in_order : goal.returns-else-in_order
returns-else-in_order c = turn_later (content_of c.args.self.now) c.args.word c.in-Some.kind (sym c.of.ensures ∙ c.in-Some.is) c.least_kind.result c.le-in_order.result false c.if-self-eq0.false c.least_kind.ensures (sym c.if-in_order.false ∙ c.le-in_order.ensures) c.if-in_order.false
