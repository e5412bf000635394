-- `extents`: the table of what was surveyed gives the places that lie in an extent.
use Rattle.std.proofs.Common.{◌≡◌, ℕ, ◌≤◌, Bool, false, ◌&&◌, ltb, length, ◌∙◌, arith, rules}
use Rattle.std.proofs.lemmas.Bool.{and_left, and_right, le-ltb}
use Rattle.plan.specs.Lying.{lies_in}
use Rattle.survey.specs.Kept.{kept_lies}
use Rattle.policy.specs.Contents.{Content, role_at}
use Rattle.policy.specs.Policies.{says}
use Rattle.rights.specs.Extents.{extent_holds}
use Rattle.rights.proofs.Counts.{roles_few}
use Rattle.rights.proofs.Tables.{below_64}
use Rattle.rights.proofs.inside.extents.Goals as goal

-- what is past the roles or past the places holds nothing
past_roles : (n : ℕ) (lies : ℕ → ℕ → Bool) (c : Content) (r p : ℕ) → length c.roles ≤ r → extent_holds n lies c r p ≡ false
past_roles n lies c r p l = and_left _ _ (and_left (ltb r (length c.roles)) _ (le-ltb r (length c.roles) l))

past_places : (n : ℕ) (lies : ℕ → ℕ → Bool) (c : Content) (r p : ℕ) → n ≤ p → extent_holds n lies c r p ≡ false
past_places n lies c r p l = and_left _ _ (and_right (ltb r (length c.roles)) _ (le-ltb p n l))

pub returns : goal.returns
returns c h most tied r p =
    let content = says c.args.policy.now in
    let survey = c.args.survey.now in
    c.table.ensures (extent_holds survey.count (kept_lies survey) content) (λ i j b il jl e. search rules) r p
    ∙ (λ t. ltb r 64 && (ltb p 64 && ((ltb r (length content.roles) && ltb p (tied.count t)) && tied.lies p (role_at content r).extent t)))
    ∙ below_64 (extent_holds (length h.places) (lies_in h) content)
    (λ i j l. past_roles (length h.places) (lies_in h) content i j (omega (arith, roles_few c.args.policy.now)))
    (λ i j l. past_places (length h.places) (lies_in h) content i j (omega (arith, most)))
    r p
