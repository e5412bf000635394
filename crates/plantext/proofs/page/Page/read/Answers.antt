-- `read`: what the page holds is what the text says, so words that are written out come back.
use Rattle.std.proofs.Common.{◌≡◌, Result, rules}
use Rattle.plantext.specs.declared.faults.TextFault.{TextFault}
use Rattle.plantext.specs.Reading.{Content, content_of, room_of, read_of, answered}
use Rattle.plantext.proofs.Back.{page_read}
use Rattle.plantext.proofs.page.Page.read.Goals as goal

pub returns-then-is_err-clause-back : goal.returns-then-is_err-clause-back
returns-then-is_err-clause-back c =
    let e : ◌≡◌ {A = Content × Result (Unit {0}) TextFault} (content_of c.clear-then-is_err.new.self, c.take_lines-answer.result) (answered (read_of (room_of c.args.self.now) c.args.text.now)) = search rules in
    λ ws h is le. page_read (room_of c.args.self.now) c.args.text.now ws _ _ e h is le

pub returns-else-is_err-clause-back : goal.returns-else-is_err-clause-back
returns-else-is_err-clause-back c =
    let e : ◌≡◌ {A = Content × Result (Unit {0}) TextFault} (content_of c.take_lines-answer.new.self, c.take_lines-answer.result) (answered (read_of (room_of c.args.self.now) c.args.text.now)) = search rules in
    λ ws h is le. page_read (room_of c.args.self.now) c.args.text.now ws _ _ e h is le
