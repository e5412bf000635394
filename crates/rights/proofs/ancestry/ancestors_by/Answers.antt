-- `ancestors_by`: with at most 64 roles the table of what is above has all ancestors.
use Rattle.std.proofs.Common.{arith, ◌∙◌, rules}
use Rattle.sets.specs.Rows.{cell}
use Rattle.policy.specs.Policies.{says}
use Rattle.rights.specs.Ancestors.{ancestor_by}
use Rattle.rights.proofs.Aboves.{ancestor_past, none_above}
use Rattle.rights.proofs.Counts.{roles_few}
use Rattle.rights.proofs.Tables.{below_64}
use Rattle.rights.proofs.ancestry.ancestors_by.Goals as goal

pub returns : goal.returns
returns g c f h r a =
    let p = c.args.policy.now in
    let reach = cell c.args.reach.now in
    c.table.ensures (ancestor_by reach f (says p)) (λ i j b il jl e. search (rules, h)) r a
    ∙ below_64 (ancestor_by reach f (says p))
    (λ i j l. none_above (says p) reach f i j (omega (arith, roles_few p)))
    (λ i j l. ancestor_past (says p) reach f i j (omega (arith, roles_few p)))
    r a
