use Rattle.std.proofs.Common.{◌≡◌, [], replicate}
use Rattle.trip_events.proofs.stop_times.no_records.Given as goal

abbrev pub invariant-loop : goal.invariant-loop
invariant-loop l = l.trips.items ≡ replicate l.counter []
