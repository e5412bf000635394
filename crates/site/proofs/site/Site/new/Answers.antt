-- `new`: nothing is sealed, and nothing is kept.
use Rattle.std.proofs.Common.{length, sym, refl, ◌∙◌}
use Rattle.plan.specs.Lying.{lies_in}
use Rattle.sets.proofs.Entries.{cell_none}
use Rattle.site.proofs.Blanks.{holds_nothing, nothing_above}
use Rattle.site.proofs.Grounds.{same_ground}
use Rattle.site.proofs.site.Site.new.Goals as goal

pub returns : goal.returns
returns g c =
    let h = g.P.Plan.hall c.args.plan in (
      refl,
      same_ground h _ _ _ _ _ _ c.in_ok-policy.ensures.0
          (λ r p. cell_none 64 c.none.result r p c.none.ensures ∙ sym (holds_nothing (length h.places) (lies_in h) r p))
          (λ r a. cell_none 64 c.none-2.result r a c.none-2.ensures ∙ sym (nothing_above (lies_in h) r a)),
    )
