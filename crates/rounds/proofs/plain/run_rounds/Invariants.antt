use Rattle.std.proofs.Common.{◌≡◌, length}
use Rattle.timetable.specs.Journeys.{Whereabouts}
use Rattle.rounds.specs.Minutes.{IsTable, IsRidden, IsReady}
use Rattle.rounds.proofs.plain.run_rounds.Given as goal

abbrev pub invariant-loop : goal.invariant-loop
invariant-loop l =
    let o : Whereabouts = record { stop = l.fn.origin.0; time = l.fn.depart } in
    record {
      rides : length l.ride ≡ l.network.stops;
      readies : length l.ready ≡ l.network.stops;
      ride : IsTable (IsRidden l.network o l.counter) l.ride;
      ready : IsTable (IsReady l.network o l.counter) l.ready;
    }
