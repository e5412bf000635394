-- `first_fault`: what the survey keeps is what a hall says that it is tied to.
use Rattle.std.proofs.Common.{◌∙◌}
use Rattle.policy.specs.Policies.{says}
use Rattle.checks.proofs.Sights.{one_fault}
use Rattle.checks.proofs.search.first_fault.Goals as goal

pub returns : goal.returns
returns c = record {
  kept = c.first_fault.ensures;
  meant = λ h tied. c.first_fault.ensures ∙ one_fault h c.args.survey.now tied (says c.args.policy.now);
}
