-- `perform`: each kind of call is the call of its name.
use Rattle.calls.specs.declared.call.Event.TheVariants.{Report, Miss, Open, Close, Activate, Drop, Where, Enabled, Roles, Ask}
use Rattle.std.proofs.Common.{rules}
use Rattle.decide.specs.Answers.{done, placed, judged, gathered, granted}
use Rattle.guard.proofs.Performed.{as_call}
use Rattle.guard.proofs.guard.Guard.perform.Goals as goal

pub returns-in-Report : goal.returns-in-Report
returns-in-Report g c =
    let v = c.args.self.now in
    let both = as_call (g.P.Plan.hall v.site.plan) v c.report.new.self c.args.call (Report c.in-Report.at) c.map.result (done c.report.result) c.in-Report.is (search rules) c.report.ensures.performs in
    record { performs = both.0; law = both.1; unsealed = both.2 }

pub returns-in-Miss : goal.returns-in-Miss
returns-in-Miss g c =
    let v = c.args.self.now in
    let both = as_call (g.P.Plan.hall v.site.plan) v c.miss.new.self c.args.call (Miss) c.map-in-Miss.result (done c.miss.result) c.in-Miss.is (search rules) c.miss.ensures.performs in
    record { performs = both.0; law = both.1; unsealed = both.2 }

pub returns-in-Open : goal.returns-in-Open
returns-in-Open g c =
    let v = c.args.self.now in
    let both = as_call (g.P.Plan.hall v.site.plan) v c.«open».new.self c.args.call (Open c.in-Open.session) c.map-in-Open.result (done c.«open».result) c.in-Open.is (search rules) c.«open».ensures.performs in
    record { performs = both.0; law = both.1; unsealed = both.2 }

pub returns-in-Close : goal.returns-in-Close
returns-in-Close g c =
    let v = c.args.self.now in
    let both = as_call (g.P.Plan.hall v.site.plan) v c.close.new.self c.args.call (Close c.in-Close.session) c.map-in-Close.result (done c.close.result) c.in-Close.is (search rules) c.close.ensures.performs in
    record { performs = both.0; law = both.1; unsealed = both.2 }

pub returns-in-Activate : goal.returns-in-Activate
returns-in-Activate g c =
    let v = c.args.self.now in
    let both = as_call (g.P.Plan.hall v.site.plan) v c.activate.new.self c.args.call (Activate c.in-Activate.session c.in-Activate.role) c.map-in-Activate.result (done c.activate.result) c.in-Activate.is (search rules) c.activate.ensures.performs in
    record { performs = both.0; law = both.1; unsealed = both.2 }

pub returns-in-Drop : goal.returns-in-Drop
returns-in-Drop g c =
    let v = c.args.self.now in
    let both = as_call (g.P.Plan.hall v.site.plan) v c.drop.new.self c.args.call (Drop c.in-Drop.session c.in-Drop.role) c.map-in-Drop.result (done c.drop.result) c.in-Drop.is (search rules) c.drop.ensures.performs in
    record { performs = both.0; law = both.1; unsealed = both.2 }

pub returns-in-Roles : goal.returns-in-Roles
returns-in-Roles g c =
    let v = c.args.self.now in
    let both = as_call (g.P.Plan.hall v.site.plan) v v c.args.call (Roles c.in-Roles.session) c.map-in-Roles.result (gathered c.roles.result) c.in-Roles.is (search rules) c.roles.ensures.performs in
    record { performs = both.0; law = both.1; unsealed = both.2 }

pub returns-in-Ask : goal.returns-in-Ask
returns-in-Ask g c =
    let v = c.args.self.now in
    let both = as_call (g.P.Plan.hall v.site.plan) v v c.args.call (Ask c.in-Ask.session c.in-Ask.operation c.in-Ask.object) c.map-in-Ask.result (granted c.ask.result) c.in-Ask.is (search rules) c.ask.ensures.performs in
    record { performs = both.0; law = both.1; unsealed = both.2 }

pub returns-in-Where : goal.returns-in-Where
returns-in-Where g c =
    let v = c.args.self.now in
    let both = as_call (g.P.Plan.hall v.site.plan) v v c.args.call (Where c.in-Where.role) c.map-in-Where.result (placed c.place.result) c.in-Where.is (search rules) c.place.ensures.performs in
    record { performs = both.0; law = both.1; unsealed = both.2 }

pub returns-in-Enabled : goal.returns-in-Enabled
returns-in-Enabled g c =
    let v = c.args.self.now in
    let both = as_call (g.P.Plan.hall v.site.plan) v v c.args.call (Enabled c.in-Enabled.role) c.map-in-Enabled.result (judged c.enabled.result) c.in-Enabled.is (search rules) c.enabled.ensures.performs in
    record { performs = both.0; law = both.1; unsealed = both.2 }
