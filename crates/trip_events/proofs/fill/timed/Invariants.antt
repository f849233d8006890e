use Rattle.std.proofs.Common.{◌≡◌, ◌++◌, drop, Option, None}
use Rattle.trip_events.specs.declared.fill.Neighbour.{Neighbour}
use Rattle.trip_events.proofs.FillFacts.{filled_on}
use Rattle.trip_events.proofs.fill.timed.Given as goal

abbrev pub invariant-loop-stop_time : goal.invariant-loop-stop_time
invariant-loop-stop_time l =
    (before : Option Neighbour) × (l.events.items ++ filled_on before (drop l.stop_time-index l.trip_times)
    ≡ filled_on None l.trip_times)
