-- `of`: each point narrows what lies in what and widens what shares a point.
use Rattle.std.proofs.Common.{◌≡◌, ◌≤◌, ◌++◌, length, take, drop, length-append, length-drop, sym, subst, arith, rules}
use Rattle.std.proofs.lemmas.List.{length-take-le}
use Rattle.plan.specs.Hall.{type_at}
use Rattle.survey.specs.Entries.{nothing, Unseen}
use Rattle.survey.proofs.Made.{made_each, changed_front}
use Rattle.survey.proofs.Pass.{SeenTo, seen_none, seen_point, seen_row}
use Rattle.survey.proofs.Ties.{survey_from, tied_from}
use Rattle.survey.proofs.Survey.of.Goals as goal

pub loop-y-init : goal.loop-y-init
loop-y-init g c =
    let h = g.P.Plan.hall c.args.plan.now in
    let made = c.from_fn-places.ensures.items in
    seen_none h c.from_fn-places.result made.long
    (λ i l. made_each _ _ (λ k s. Unseen (type_at h k) s) (λ k y q e. search rules) c.from_fn-places.result 0 64 made.each i nothing (omega arith) (omega arith))

pub slice_bounds-note-end : goal.slice_bounds-note-end
slice_bounds-note-end g c = sym (length-take-le c.count-count.result c.loop-x.places (omega (arith, g.met.P.Plan.few c.args.plan.now)))

pub loop-x-preserved : goal.loop-x-preserved
loop-x-preserved g c =
    let h = g.P.Plan.hall c.args.plan.now in
    let n = c.count-count.result in
    let fits : n ≤ length c.loop-x.places = omega (arith, g.met.P.Plan.few c.args.plan.now) in
    let few : length (take n c.loop-x.places) ≡ n = length-take-le n c.loop-x.places fits in
    let long : length c.note.new.places ≡ n = omega (arith, few) in
    let full : length (c.note.new.places ++ drop n c.loop-x.places) ≡ 64 = omega (arith, length-append c.note.new.places (drop n c.loop-x.places), length-drop n c.loop-x.places) in
    seen_point h c.places_at.result.bits n c.loop-x.x c.loop-y.y c.loop-x.places _ c.count-count.ensures c.places_at.ensures
    (changed_front c.places_at.result.bits n _ c.loop-x.places c.note.new.places fits few long c.note.ensures) full c.loop-x.invariant

pub loop-y-preserved : goal.loop-y-preserved
loop-y-preserved g c = seen_row (g.P.Plan.hall c.args.plan.now) c.loop-x.x c.loop-y.y c.loop-x.places (omega arith) c.loop-x.invariant

pub returns : goal.returns
returns g c =
    let h = g.P.Plan.hall c.args.plan.now in
    let few = g.met.P.Plan.few c.args.plan.now in
    let all : c.loop-y.y ≡ h.height = omega arith in
    let seen : SeenTo h c.loop-y.places 0 h.height = subst (SeenTo h c.loop-y.places 0) all c.loop-y.invariant in
    record { value = survey_from h _ few c.count-count.ensures seen; tied = tied_from h _ few c.count-count.ensures seen }
