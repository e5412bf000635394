-- `times`: the product of two steps fits.
use Rattle.std.proofs.Common.{◌^◌, ◌≤◌, ◌*ℤ◌, arith, w64, SFits}
use lib.Signed.{mag}
use Rattle.std.proofs.lemmas.Int.{to_z-of_z}
use Rattle.ring.proofs.Products.{mag_times}
use Rattle.ring.proofs.times.Goals as goal

pub returns : goal.returns
returns c =
    let m : mag (c.args.p *ℤ c.args.q) ≤ 2 ^ 32 = mag_times c.args.p c.args.q (2 ^ 16) c.requires.first c.requires.second in
    let f : SFits w64 (c.args.p *ℤ c.args.q) = record { sfits = omega arith } in
    record { value = grind (arith, to_z-of_z); bound = grind (arith, to_z-of_z) }
