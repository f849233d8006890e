use Rattle.std.proofs.Common.{◌≡◌, drop}
use Rattle.trip_events.specs.WholeTrips.{records_back}
use Rattle.trip_events.proofs.whole_trips.first_record_back.Given as goal

abbrev pub invariant-loop-stop_time : goal.invariant-loop-stop_time
invariant-loop-stop_time l = records_back l.departed (drop l.stop_time-index l.trip_times) ≡ records_back 0 l.trip_times
