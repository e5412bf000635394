-- `read`: the places below are few enough, and what holds of the words that were accepted.
use Rattle.std.proofs.Common.{◌≡◌, ◌≤◌, length, min, refl, subst, arith}
use Rattle.plan.specs.Hall.{most_places}
use Rattle.wordlist.specs.Outcomes.{answered, replaced}
use Rattle.zones.specs.Reading.{progress_of, start, zones_from}
use Rattle.zones.proofs.Exactly.{exactly_after, all_after}
use Rattle.zones.proofs.zones.Zones.read.Goals as goal

pub returns : goal.returns
returns g c =
    let places = length (g.P.Plan.hall c.args.self.now.below).places in
    let few : places ≤ most_places = g.met.P.Plan.few c.args.self.now.below in
    let ground : min c.count-places.result most_places ≡ places = omega (arith, c.count-places.ensures, few) in
    let answer = subst (λ n. c.keep.result ≡ answered (zones_from n c.args.words.now)) ground c.keep.ensures.answer in
    let after = subst (λ n. c.keep.new.kept.records.items ≡ replaced c.args.self.now.zones.records.items (zones_from n c.args.words.now)) ground c.keep.ensures.after in
    record {
      answer = answer;
      after = after;
      below = refl;
      draft = subst (λ n. progress_of c.keep.new.draft ≡ start n) ground c.keep.ensures.draft;
      exactly = exactly_after places few c.args.words.now _ _ _ answer after;
      all = all_after places few c.args.words.now _ _ _ answer after;
    }
