-- `padded_parts`: one part more.
use Rattle.std.proofs.Common.{rules, ◌≡◌, ◌<◌, length, get_or, set, ap, ◌∙◌, arith, length-set}
use Rattle.listed.proofs.Padded.{filling_more}
use Rattle.listed.proofs.parts.padded_parts.Goals as goal

pub loop-k-preserved : goal.loop-k-preserved
loop-k-preserved g c =
    let xs = c.loop-k.parts in
    let k = c.loop-k.k in
    let x = c.part.result in
    let ws = c.args.words.now.items in
    let value = c.as_slice-word-items.ensures.value in
    let there : k < length ws = omega (arith, c.loop-k-test.true, ap length value) in
    let room : k < 16 = omega (arith, c.loop-k-test.true, c.as_slice-word-items.ensures.fits) in
    let long : length (set xs k x) ≡ 16 = length-set xs k x ∙ c.loop-k.invariant.0 in (
      long,
      λ said same.
          let is : x ≡ said (get_or ws k 0) = search rules in
          filling_more said xs ws k x room there is long (c.loop-k.invariant.1 said same),
    )
