-- The ascending order of a trip's records.
-- (GTFS Schedule reference, stop_times.txt: the values of stop_sequence "must increase along the trip".)
use Rattle.std.specs.Prelude.{◌≡◌, ℕ, List, [], All}
use Rattle.std.specs.List.Sorted.{IsPermutation}
use Rattle.table_records.specs.Faults.{faults_after}
use Rattle.table_records.specs.declared.fault.FileName.TheVariants as file
use Rattle.trip_events.specs.StopTimes.{TimeRow, checks, sorted_trips}
use Rattle.trip_events.specs.TripTimes.{IsAscending, in_order}
use Rattle.trip_events.specs.declared.trip_times.StopTime.{StopTime}

-- putting records in order keeps them
abbrev pub KeepsAll : Type 0
KeepsAll = (trip_times : List StopTime) → IsPermutation trip_times (in_order trip_times)

-- where no record of the file is refused, the records of each trip, put in order, ascend by stop_sequence
abbrev pub Ascend : Type 0
Ascend = (trips stops : List (List ℕ)) (rows : List TimeRow) →
    faults_after file.StopTimes (checks trips stops) [] rows ≡ [] →
    All (IsAscending 0) (sorted_trips trips stops rows)

-- records have one ascending order
abbrev pub IsOne : Type 0
IsOne = (xs ys : List StopTime) → IsPermutation xs ys → IsAscending 0 xs → IsAscending 0 ys → xs ≡ ys
