-- `answer_to`: what is appended is the text of the answer.
use Rattle.std.proofs.Common.{◌≡◌, ◌++◌, is_err, string_bytes, ap, ◌∙◌}
use Rattle.std.proofs.lemmas.Result.{err_from_is_err_and, IfOk-from_err}
use Rattle.benchlines.specs.Lines.{line_call}
use Rattle.benchrun.specs.Printed.{text_of}
use Rattle.benchrun.proofs.Putting.{appended, prints, prints_on}
use Rattle.benchrun.proofs.lines.answer_to.Goals as goal

pub returns-in_err-text : goal.returns-in_err-text
returns-in_err-text g c =
    let told = c.put.ensures in
    let v = c.args.guard.now in
    let h = g.P.Plan.hall v.site.plan in
    let call = line_call c.args.line.now in
    let r = c.from_residual.result in
    let old = string_bytes c.args.out.now in
    let none = IfOk-from_err r (λ _. old ≡ old ++ text_of c.put.result) (ap is_err (err_from_is_err_and r c.from_residual.ensures.1).1) in
    record {
      text = prints h v c.put.new.guard call c.put.result r old old told.answers none;
      site = told.answers.site;
      kept = told.answers.kept;
      law = prints_on h v c.put.new.guard call c.put.result r old old told.law none;
    }

pub returns : goal.returns
returns g c =
    let told = c.put.ensures in
    let v = c.args.guard.now in
    let h = g.P.Plan.hall v.site.plan in
    let call = line_call c.args.line.now in
    let r = c.push_str.result in
    let old = string_bytes c.args.out.now in
    let new = string_bytes c.push_str.new.self in
    let a = c.put.result in
    let more = appended r old new c.as_str.result.now (text_of a) (c.as_str.ensures.value ∙ c.in_ok-text.ensures) c.push_str.ensures.bytes in
    record {
      text = prints h v c.put.new.guard call a r old new told.answers more;
      site = told.answers.site;
      kept = told.answers.kept;
      law = prints_on h v c.put.new.guard call a r old new told.law more;
    }
