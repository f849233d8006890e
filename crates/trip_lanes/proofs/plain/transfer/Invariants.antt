use Rattle.std.proofs.Common.{◌≡◌, ℕ, ◌<◌, length}
use Rattle.timetable.specs.RoundSteps.{Lowers}
use Rattle.trip_lanes.proofs.WalksByStops.{TransferredBelow}
use Rattle.trip_lanes.specs.Lane.{lane}
use Rattle.trip_lanes.proofs.plain.transfer.Given as goal

abbrev pub invariant-loop-stop : goal.invariant-loop-stop
invariant-loop-stop l =
    record {
      same : length l.ready ≡ length l.ride;
      lanes : (k : ℕ) → k < 16 → Lowers (TransferredBelow l.feet (lane k l.ride) l.stop) (lane k l.initial.ready)
          (lane k l.ready);
    }
