-- `named`: the last of the names.
use Rattle.std.proofs.Common.{◌≡◌, codes, arith, rules}
use Rattle.std.proofs.lemmas.Slice.Eq.{text_from_reads}
use Rattle.plantext.proofs.page.Heading.named.Goals as goal

pub returns-in-policy : goal.returns-in-policy
returns-in-policy c =
    let e : c.args.word.now ≡ codes "policy" = text_from_reads _ _ (omega arith) (search rules) in
    rw e
