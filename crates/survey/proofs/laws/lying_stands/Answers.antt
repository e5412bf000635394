-- `lying_stands`: the laws, each by its lemma.
use Rattle.survey.proofs.Lying.{lies_means, lies_itself, lies_on, shares_means, shares_turned, point_means}
use Rattle.survey.proofs.Types.{some_means, types_mean}
use Rattle.survey.proofs.laws.lying_stands.Goals as goal

pub returns : goal.returns
returns c = record {
  lies = lies_means;
  reflexive = lies_itself;
  transitive = lies_on;
  shares = shares_means;
  symmetric = shares_turned;
  point = point_means;
  places = some_means;
  types = types_mean;
}
