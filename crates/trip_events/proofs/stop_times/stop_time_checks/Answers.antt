use Rattle.std.proofs.Common.{length, nat_le, position, refl}
use Rattle.std.specs.Prelude.{is_none}
use Rattle.std.specs.Str.{bytes_eq}
use Rattle.table_records.proofs.CheckFacts.{also, both, by_check, by_limit, by_others, only}
use Rattle.trip_events.specs.StopTimes.{is_wrong, of_trip, row_of, sequence_of, stop_times_of, trip_of}
use Rattle.trip_events.specs.TripTimes.{has_number}
use Rattle.trip_events.proofs.stop_times.stop_time_checks.Goals as goal

pub returns-clause-explains : goal.returns-clause-explains
returns-clause-explains c trips stops before header fields =
    let r = row_of header fields in
    let earlier = of_trip (trip_of trips r) (stop_times_of trips stops before) in
    both (also (both
    (only (by_limit (nat_le 8000000 (length before))))
    (also (also (also
    (only (by_check 0 refl refl))
    (by_others (is_none (position (bytes_eq r.trip) trips)) 1 refl refl refl))
    (by_others (is_wrong (λ id. position (bytes_eq id) stops) r.stop) 2 refl refl refl))
    (by_check 3 refl refl)))
    (by_others (has_number (sequence_of r) earlier) 4 refl refl refl))
    (also (also (also
    (only (by_check 5 refl refl))
    (by_check 6 refl refl))
    (by_check 7 refl refl))
    (by_check 8 refl refl))
