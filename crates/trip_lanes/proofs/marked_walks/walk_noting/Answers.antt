use Rattle.std.proofs.Common.{rules, ℕ, get_or, slice_index}
use Rattle.std.proofs.lemmas.Option.{slice_get-get_or}
use Rattle.timetable.specs.declared.trips.StopNo.{StopNo}
use Rattle.trip_lanes.specs.Lane.{lane, labels_in}
use Rattle.trip_lanes.proofs.TripInOneLane.{lane_falls, marks_then}
use Rattle.trip_lanes.proofs.WalkInOneLane.{later_one, later_each}
use Rattle.trip_lanes.proofs.marked_walks.walk_noting.Goals as goal

pub loop-to-preserved : goal.loop-to-preserved
loop-to-preserved g c =
    let row = c.args.leaving.now in
    let x = c.loop-to.to-index in
    let none : StopNo × ℕ = (record { 0 = 0 }, 0) in
    let here = get_or row x none in
    let old = c.loop-to.invariant in
    let rows = labels_in g.R.LaneLabels.labels in
    record {
      same = search rules;
      lanes = λ k l. later_one g.R.LaneLabels.NEVER row (slice_index (g.R.LaneLabels.labels c.args.times) k) x here.0.0
          here.1
          (slice_index (g.R.LaneLabels.labels c.later.result) k) (slice_get-get_or row x none c.loop-to-test.true)
          (c.later.ensures k l) (old.lanes k l) (c.lower_noting.ensures.lanes k l);
      marks = marks_then (rows c.args.ready.now) (rows c.loop-to.ready) (rows c.lower_noting.new.ready)
          c.args.fallen.now c.loop-to.fallen c.lower_noting.new.fallen
          (λ l p h. lane_falls (lane l (rows c.args.ready.now)) (lane l (rows c.loop-to.ready)) (old.lanes l h) p)
          (λ l p h. lane_falls (lane l (rows c.loop-to.ready)) (lane l (rows c.lower_noting.new.ready))
          (c.lower_noting.ensures.lanes l h) p)
          old.marks c.lower_noting.ensures.fallen;
      befores = search rules;
      noted = λ k was l are. c.lower_noting.ensures.before k was l (old.noted k was l are);
    }

pub returns-clause-lanes : goal.returns-clause-lanes
returns-clause-lanes g c l h = later_each g.R.LaneLabels.NEVER c.args.leaving.now
    (slice_index (g.R.LaneLabels.labels c.args.times) l)
    c.loop-to.to-index c.loop-to-test.false (c.loop-to.invariant.lanes l h)
