use Rattle.std.proofs.Common.{rules, ◌<◌, ◌≤◌, ℕ, length, slice_index, arith}
use Rattle.std.proofs.lemmas.List.{length-map}
use Rattle.timetable.specs.Footpaths.{IsFoot}
use Rattle.timetable.specs.declared.least.TheConstants.{NEVER}
use Rattle.timetable.proofs.KnownParts.{foot_in_range}
use Rattle.trip_lanes.proofs.WalksByStops.{offer_one, offer_each}
use Rattle.trip_lanes.specs.Lane.{lane}
use Rattle.trip_lanes.proofs.LoweredStop.{lane_old}
use Rattle.trip_lanes.proofs.TripInOneLane.{lane_falls}
use Rattle.trip_lanes.proofs.WalkInOneLane.{later_is}
use Rattle.trip_lanes.proofs.plain.walk.Goals as goal

pub walk_from-requires : goal.walk_from-requires
walk_from-requires c k stop seconds h =
    let feet = c.args.feet.now.walks in
    let foot : IsFoot feet c.loop-stop.stop stop seconds = (c.leaving.result.now, k, c.leaving.ensures, h) in
    let in_range = foot_in_range c.args.feet.now c.known.ensures c.loop-stop.stop stop seconds foot in
    omega (arith, in_range.0, c.lower_all.auto.labels)

pub loop-stop-preserved : goal.loop-stop-preserved
loop-stop-preserved c =
    let feet = c.args.feet.now.walks in
    let x = c.loop-stop.stop in
    let within : x < length c.args.ride.now = omega arith in
    record {
      same = search rules;
      lanes = λ k l.
          let read = lane_old c.args.ride.now x k within in
          let ride = lane k c.args.ride.now in
          let fits : (p : ℕ) → slice_index (lane k c.lower_all.new.labels) p ≤ NEVER = λ p.
          let f = c.requires.fits k p l in
          let a = lane_falls (lane k c.args.ready.now) (lane k c.loop-stop.ready) (c.loop-stop.invariant.lanes k l) p in
          let b = lane_falls (lane k c.loop-stop.ready) (lane k c.lower_all.new.labels) (c.lower_all.ensures k l) p in
          omega arith in
          offer_one feet ride x c.leaving.result.now c.leaving.ensures (c.loop-stop.invariant.lanes k l)
          (rw read (c.lower_all.ensures k l))
          (later_is NEVER c.leaving.result.now (slice_index ride x) (lane k c.lower_all.new.labels)
          (lane k c.walk_from.new.ready) (omega arith) fits (rw read (c.walk_from.ensures k l)));
    }

pub returns : goal.returns
returns c l h =
    let long : length (lane l c.args.ready.now) ≤ c.loop-stop.stop =
    omega (arith, length-map c.args.ready.now (λ w. slice_index w l)) in
    offer_each c.args.feet.now.walks (lane l c.args.ride.now) c.loop-stop.stop long (omega arith)
    (c.loop-stop.invariant.lanes l h)
