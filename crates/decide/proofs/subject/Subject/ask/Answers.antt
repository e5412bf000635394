-- `ask`: each search is by its definition.
use Rattle.std.proofs.Common.{rules}
use Rattle.calls.specs.Kept.{standing_of}
use Rattle.history.specs.Questions.{serves, serves_patient, grants}
use Rattle.decide.specs.Subjects.{over}
use Rattle.decide.proofs.subject.Subject.ask.Goals as goal

pub returns-then-not-any : goal.returns-then-not-any
returns-then-not-any g c =
    let at = over g.P.Plan.hall c.args.self.now in
    let st = standing_of c.args.self.now.badge.now in
    let serving = c.any.ensures (serves at st c.args.session c.args.operation c.args.object) (λ k b l e. search rules) in
    search rules

pub returns-then-not-any-2 : goal.returns-then-not-any-2
returns-then-not-any-2 g c =
    let at = over g.P.Plan.hall c.args.self.now in
    let st = standing_of c.args.self.now.badge.now in
    let serving = c.any.ensures (serves at st c.args.session c.args.operation c.args.object) (λ k b l e. search rules) in
    let patient = c.any-2.ensures (serves_patient at st c.args.session c.args.operation c.args.object) (λ k b l e. search rules) in
    search rules

pub returns : goal.returns
returns g c =
    let at = over g.P.Plan.hall c.args.self.now in
    let st = standing_of c.args.self.now.badge.now in
    let serving = c.any.ensures (serves at st c.args.session c.args.operation c.args.object) (λ k b l e. search rules) in
    let patient = c.any-2.ensures (serves_patient at st c.args.session c.args.operation c.args.object) (λ k b l e. search rules) in
    let found = c.lowest.ensures.found (grants at st c.args.session c.args.operation c.args.object) (λ k b l e. search rules) in
    let value = c.lowest.ensures.value (grants at st c.args.session c.args.operation c.args.object) (λ k b l e. search rules) in
    search rules
