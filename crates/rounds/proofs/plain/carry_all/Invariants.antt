use Rattle.std.proofs.Common.{◌≡◌, length}
use Rattle.timetable.specs.RoundSteps.{Lowers}
use Rattle.trip_lanes.proofs.TripByEvents.{CarriesAnyBelow}
use Rattle.rounds.proofs.plain.carry_all.Given as goal

abbrev pub invariant-loop-trip : goal.invariant-loop-trip
invariant-loop-trip l =
    record {
      same : length l.ready ≡ length l.ride;
      lowered : Lowers (CarriesAnyBelow l.ready l.trips l.trip-index) l.initial.ride l.ride;
    }
