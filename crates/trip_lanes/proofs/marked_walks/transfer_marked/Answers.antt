use Rattle.std.proofs.Common.{rules, ◌<◌, ◌≤◌, true, false, ℕ, length, slice_index, sym, ◌∙◌, arith}
use Rattle.std.proofs.lemmas.Bool.{false≢true}
use Rattle.std.proofs.lemmas.Option.{get_or_from_slice_get}
use Rattle.std.proofs.lemmas.List.{length-map}
use Rattle.timetable.specs.Footpaths.{IsFoot}
use Rattle.timetable.proofs.KnownParts.{foot_in_range}
use Rattle.trip_lanes.proofs.WalksByStops.{transfer_one, transfer_each}
use Rattle.trip_lanes.specs.Lane.{lane, labels_in}
use Rattle.trip_lanes.proofs.LoweredStop.{row_lane}
use Rattle.trip_lanes.proofs.TripInOneLane.{lane_falls, marks_then}
use Rattle.trip_lanes.proofs.WalkInOneLane.{later_is, change_ends, changed_by}
use Rattle.trip_lanes.proofs.UnmarkedStops.{transfer_skip}
use Rattle.trip_lanes.proofs.marked_walks.transfer_marked.Goals as goal
use Rattle.trip_lanes.proofs.marked_walks.transfer_marked.Goals.{then-marked-stop, else-marked-stop}

pub walk_noting-requires-clause-targets : goal.walk_noting-requires-clause-targets
walk_noting-requires-clause-targets g c k stop seconds h =
    let feet = c.args.feet.now.walks in
    let foot : IsFoot feet c.loop-stop.stop stop seconds = (c.leaving.result.now, k, c.leaving.ensures, h) in
    let in_range = foot_in_range c.args.feet.now c.known.ensures c.loop-stop.stop stop seconds foot in
    omega (arith, in_range.0, c.lower_noting.auto.ready)

pub loop-stop-preserved : goal.loop-stop-preserved
loop-stop-preserved g c =
    let feet = c.args.feet.now in
    let x = c.loop-stop.stop in
    let rows = labels_in g.R.LaneLabels.labels in
    let within : x < length c.args.ride.now = omega arith in
    record {
      same = elim c.if-marked-stop.branch [ then-marked-stop w ↦ search rules | else-marked-stop w ↦ search rules ];
      lanes = λ k l. elim c.if-marked-stop.branch [
        | then-marked-stop w ↦
            let read = row_lane g.R.LaneLabels.labels c.args.ride.now x k w.index-ride-stop.result
            w.index-ride-stop.result
            w.index-ride-stop.is within in
            let ride = lane k (rows c.args.ride.now) in
            let before : (p : ℕ) → slice_index (lane k (rows c.loop-stop.ready)) p ≤ g.R.LaneLabels.NEVER = λ p.
            let f = c.requires.fits k p l in
            let a = lane_falls (lane k (rows c.args.ready.now)) (lane k (rows c.loop-stop.ready))
            (c.loop-stop.invariant.lanes k l) p in
            omega arith in
            let fits : (p : ℕ) → slice_index (lane k (rows w.lower_noting.new.ready)) p ≤ g.R.LaneLabels.NEVER = λ p.
            let f = before p in
            let b = lane_falls (lane k (rows c.loop-stop.ready)) (lane k (rows w.lower_noting.new.ready))
            (w.lower_noting.ensures.lanes k l) p in
            omega arith in
            rw w.ready-is (transfer_one feet ride x w.leaving.result.now w.leaving.ensures
            (c.loop-stop.invariant.lanes k l)
            (change_ends g.R.LaneLabels.NEVER feet ride x (lane k (rows c.loop-stop.ready))
            (lane k (rows w.lower_noting.new.ready)) g.met.R.LaneLabels.never_fits before
            (changed_by g.R.LaneLabels.NEVER x (slice_index (g.R.LaneLabels.labels w.later.result) k)
            (slice_index ride x)
            w.change.result (slice_index feet.changes x) (rw read (w.later.ensures k l)) w.change.ensures
            (w.lower_noting.ensures.lanes k l)))
            (later_is g.R.LaneLabels.NEVER w.leaving.result.now (slice_index ride x)
            (lane k (rows w.lower_noting.new.ready))
            (lane k (rows w.walk_noting.new.ready)) g.met.R.LaneLabels.never_fits fits
            (rw read (w.walk_noting.ensures.lanes k l))))
        | else-marked-stop w ↦
            rw w.ready-is (transfer_skip feet (lane k (rows c.args.ride.now)) x (lane k (rows c.args.ready.now))
            (lane k (rows c.loop-stop.ready)) (c.loop-stop.invariant.lanes k l)
            (c.requires.settled k x l (omega arith) (λ on. false≢true (sym w.if-marked-stop.false
            ∙ get_or_from_slice_get c.args.marked.now x true false on))))
      ];
      falls = elim c.if-marked-stop.branch [ then-marked-stop w ↦ search rules | else-marked-stop w ↦ search rules ];
      marks = elim c.if-marked-stop.branch [
        | then-marked-stop w ↦ rw (w.ready-is, w.fallen-is)
            (marks_then (rows c.args.ready.now) (rows w.lower_noting.new.ready) (rows w.walk_noting.new.ready)
            c.args.fallen.now w.lower_noting.new.fallen w.walk_noting.new.fallen
            (λ l p h. let a = lane_falls (lane l (rows c.args.ready.now)) (lane l (rows c.loop-stop.ready))
            (c.loop-stop.invariant.lanes l h) p in let b =
            lane_falls (lane l (rows c.loop-stop.ready)) (lane l (rows w.lower_noting.new.ready))
            (w.lower_noting.ensures.lanes l h) p in omega arith)
            (λ l p h. lane_falls (lane l (rows w.lower_noting.new.ready)) (lane l (rows w.walk_noting.new.ready))
            (w.walk_noting.ensures.lanes l h) p)
            (marks_then (rows c.args.ready.now) (rows c.loop-stop.ready) (rows w.lower_noting.new.ready)
            c.args.fallen.now c.loop-stop.fallen w.lower_noting.new.fallen
            (λ l p h. lane_falls (lane l (rows c.args.ready.now)) (lane l (rows c.loop-stop.ready))
            (c.loop-stop.invariant.lanes l h) p)
            (λ l p h. lane_falls (lane l (rows c.loop-stop.ready)) (lane l (rows w.lower_noting.new.ready))
            (w.lower_noting.ensures.lanes l h) p)
            c.loop-stop.invariant.marks w.lower_noting.ensures.fallen)
            w.walk_noting.ensures.fallen)
        | else-marked-stop w ↦ rw (w.ready-is, w.fallen-is) c.loop-stop.invariant.marks
      ];
      befores = elim c.if-marked-stop.branch [ then-marked-stop w ↦ search rules | else-marked-stop w ↦ search rules ];
      noted = λ k was l are. elim c.if-marked-stop.branch [
        | then-marked-stop w ↦ rw (w.ready-is, w.before-is, w.fallen-is) (w.walk_noting.ensures.before k was l
            (w.lower_noting.ensures.before k was l (c.loop-stop.invariant.noted k was l are)))
        | else-marked-stop w ↦ rw (w.ready-is, w.before-is, w.fallen-is) (c.loop-stop.invariant.noted k was l are)
      ];
    }

pub returns-clause-lanes : goal.returns-clause-lanes
returns-clause-lanes g c l h =
    let rows = labels_in g.R.LaneLabels.labels in
    let long : length (lane l (rows c.args.ready.now)) ≤ c.loop-stop.stop =
    omega (
      arith,
      length-map (rows c.args.ready.now) (λ w. slice_index w l),
      length-map c.args.ready.now g.R.LaneLabels.labels,
    ) in
    transfer_each c.args.feet.now (lane l (rows c.args.ride.now)) c.loop-stop.stop long (omega arith)
    (c.loop-stop.invariant.lanes l h)
