use Rattle.std.proofs.Common.{◌≡◌, length}
use Rattle.timetable.specs.RoundSteps.{Lowers}
use Rattle.trip_lanes.proofs.WalksByStops.{OfferedBelow}
use Rattle.rounds.proofs.plain.walk.Given as goal

abbrev pub invariant-loop-stop : goal.invariant-loop-stop
invariant-loop-stop l =
    record {
      same : length l.ready ≡ length l.ride;
      lowered : Lowers (OfferedBelow l.feet.walks l.ride l.stop) l.initial.ready l.ready;
    }
