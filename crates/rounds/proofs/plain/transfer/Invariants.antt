use Rattle.std.proofs.Common.{◌≡◌, length}
use Rattle.timetable.specs.RoundSteps.{Lowers}
use Rattle.trip_lanes.proofs.WalksByStops.{TransferredBelow}
use Rattle.rounds.proofs.plain.transfer.Given as goal

abbrev pub invariant-loop-from : goal.invariant-loop-from
invariant-loop-from l =
    record {
      same : length l.ready ≡ length l.ride;
      lowered : Lowers (TransferredBelow l.feet l.ride l.from) l.initial.ready l.ready;
    }
