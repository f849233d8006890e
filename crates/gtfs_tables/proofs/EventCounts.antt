-- The trips of stop_times.txt are those of trips.txt.
use Rattle.std.proofs.Common.{◌≡◌, ◌+◌, ◌∙◌, ℕ, List, [], ◌∷◌, length, arith, refl}
use Rattle.std.proofs.lemmas.List.{length-map}
use Rattle.trip_events.specs.StopTimes.{TimeRow, sorted_from, sorted_trips, stop_times_of, trip_events}
use Rattle.trip_events.specs.WholeTrips.{events_of}
use Rattle.trip_events.specs.declared.trip_times.StopTime.{StopTime}

sorted_length : (trip_times : List (ℕ × StopTime)) (t : ℕ) (ids : List (List ℕ)) →
    length (sorted_from trip_times t ids) ≡ length ids
sorted_length trip_times t [] = refl
sorted_length trip_times t (id ∷ ids) = omega (arith, sorted_length trip_times (t + 1) ids)

-- each trip has a list of events
pub as_many : (ids stops : List (List ℕ)) (rows : List TimeRow) → length (trip_events ids stops rows) ≡ length ids
as_many ids stops rows = length-map (sorted_trips ids stops rows) events_of
    ∙ sorted_length (stop_times_of ids stops rows) 0 ids
