use Rattle.std.proofs.Common.{◌≡◌, length, false, IsTrue}
use Rattle.timetable.specs.RoundSteps.{Lowers}
use Rattle.trip_lanes.proofs.TripByEvents.{BoardsBelow, CarriesBelow}
use Rattle.rounds.proofs.plain.carry.Given as goal

abbrev pub invariant-loop-event : goal.invariant-loop-event
invariant-loop-event l =
    record {
      same : length l.ready ≡ length l.ride;
      lowered : Lowers (CarriesBelow l.ready l.trip l.event-index) l.initial.ride l.ride;
      aboard : IsTrue l.aboard → BoardsBelow l.ready l.trip l.event-index;
      waiting : l.aboard ≡ false → BoardsBelow l.ready l.trip l.event-index → ⊥;
    }
