use Rattle.std.proofs.Common.{◌≡◌, ℕ, ◌<◌, length, slice_index}
use Rattle.trip_lanes.specs.Lane.{lane, MarksFallen}
use Rattle.trip_lanes.proofs.TripInOneLane.{LaneAt}
use Rattle.trip_lanes.proofs.plain.carry_trip.Given as goal

abbrev pub invariant-loop-event : goal.invariant-loop-event
invariant-loop-event l =
    record {
      same : length l.ready ≡ length l.ride;
      marked : length l.marked ≡ length l.ride;
      lanes : (k : ℕ) → k < 16 → LaneAt (lane k l.ready) l.trip l.event-index (lane k l.initial.ride) (lane k l.ride)
          (slice_index l.bar k);
      marks : MarksFallen l.initial.ride l.ride l.initial.marked l.marked;
    }
