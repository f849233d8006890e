-- What stop_times.txt says: the records of each trip, in ascending order of stop_sequence, give its events.
-- A trip with a record that names no stop is set aside.
-- (GTFS Schedule reference, stop_times.txt.)
use Rattle.std.specs.Prelude.{◌≡◌, ◌≤◌, ◌+◌, ◌==◌, ◌&&◌, ℕ, Bool, List, [], ◌∷◌, ◌++◌, Option, Some, None, codes}
use Rattle.std.specs.Prelude.{count_by, filter, length, map, not, sum_by, All, is_none, nat_le, position, unwrap_or}
use Rattle.std.specs.Prelude.{if◌then◌else◌}
use Rattle.std.specs.List.{list_any}
use Rattle.std.specs.Str.{bytes_eq}
use Rattle.timetable.specs.declared.limits.TheConstants.{MOST_EVENTS}
use Rattle.table_records.specs.Columns.{column, field}
use Rattle.table_records.specs.Fields.{is_empty, number_of, time_of, trimmed, is_number}
use Rattle.table_records.specs.Faults.{when}
use Rattle.table_records.specs.Reading.{table_faults, table_rows}
use Rattle.table_records.specs.Table.{records_of}
use Rattle.table_records.specs.declared.fault.FeedFault.{FeedFault}
use Rattle.table_records.specs.declared.fault.FileName.TheVariants as file
use Rattle.table_records.specs.declared.fault.What.{What}
use Rattle.table_records.specs.declared.fault.What.TheVariants as what
use Rattle.timetable.specs.declared.trips.Event.{Event}
use Rattle.table_records.specs.Identifiers.{number_in}
use Rattle.trip_events.specs.TripTimes.{IsSound, has_number, in_order}
use Rattle.trip_events.specs.WholeTrips.{events_of, whole_trip_faults}
use Rattle.trip_events.specs.declared.trip_times.StopTime.{StopTime}
use Rattle.trip_events.specs.declared.trip_times.VisitTimes.{VisitTimes}
use Rattle.trip_events.specs.declared.stop_times.TimeColumns.{TimeColumns}

-- what counts of a record
pub record TimeRow : Type 0 where
  pub trip : List ℕ
  pub stop : List ℕ
  pub sequence : List ℕ
  pub arrive : List ℕ
  pub depart : List ℕ
  pub pickup : List ℕ
  pub drop_off : List ℕ

abbrev pub required : List (List ℕ)
required = codes "trip_id" ∷ codes "stop_id" ∷ codes "stop_sequence" ∷ []

abbrev pub columns_of : List (List ℕ) → TimeColumns
columns_of header = record {
  trip = column header (codes "trip_id");
  stop = column header (codes "stop_id");
  sequence = column header (codes "stop_sequence");
  arrive = column header (codes "arrival_time");
  depart = column header (codes "departure_time");
  pickup = column header (codes "pickup_type");
  drop_off = column header (codes "drop_off_type");
}

abbrev pub row_at : TimeColumns → List (List ℕ) → TimeRow
row_at c fields = record {
  trip = field fields c.trip;
  stop = field fields c.stop;
  sequence = trimmed (field fields c.sequence);
  arrive = trimmed (field fields c.arrive);
  depart = trimmed (field fields c.depart);
  pickup = trimmed (field fields c.pickup);
  drop_off = trimmed (field fields c.drop_off);
}

abbrev pub row_of : List (List ℕ) → List (List ℕ) → TimeRow
row_of header = row_at (columns_of header)

-- the number of a record's trip, by the identifiers of all trips
abbrev pub trip_of : List (List ℕ) → TimeRow → ℕ
trip_of trips r = number_in trips r.trip

-- the number of a record's stop, by the identifiers of all stops, if it names one
abbrev pub stop_of : List (List ℕ) → TimeRow → Option ℕ
stop_of stops r = if is_empty r.stop then None else Some (number_in stops r.stop)

-- a record's position along its trip
abbrev pub sequence_of : TimeRow → ℕ
sequence_of r = unwrap_or (number_of r.sequence) 0

-- the times of an event: where one is given the other equals it
abbrev pub times_of : Option ℕ → Option ℕ → Option VisitTimes
times_of None None = None
times_of None (Some d) = Some (record { arrive = d; depart = d })
times_of (Some a) None = Some (record { arrive = a; depart = a })
times_of (Some a) (Some d) = Some (record { arrive = a; depart = d })

-- a pickup or drop-off type allows what it speaks of, unless it is 1
abbrev pub allows : List ℕ → Bool
allows text = not (is_number 1 (number_of text))

-- what a record says of its trip, by its number in the file and the identifiers of all stops
abbrev pub stop_time_of : List (List ℕ) → ℕ → TimeRow → StopTime
stop_time_of stops at r = record {
  sequence = sequence_of r;
  at = at;
  stop = stop_of stops r;
  times = times_of (time_of r.arrive) (time_of r.depart);
  board = allows r.pickup;
  alight = allows r.drop_off;
}

-- the records from a number on, each with the number of its trip
abbrev pub stop_times_from : List (List ℕ) → List (List ℕ) → ℕ → List TimeRow → List (ℕ × StopTime)
stop_times_from trips stops at [] = []
stop_times_from trips stops at (r ∷ rest) =
    (trip_of trips r, stop_time_of stops at r) ∷ stop_times_from trips stops (at + 1) rest

-- all records, the header being record 1
abbrev pub stop_times_of : List (List ℕ) → List (List ℕ) → List TimeRow → List (ℕ × StopTime)
stop_times_of trips stops rows = stop_times_from trips stops 2 rows

-- the records of one trip, in file order
abbrev pub of_trip : ℕ → List (ℕ × StopTime) → List StopTime
of_trip trip trip_times = map (λ s. s.1) (filter (λ s. s.0 == trip) trip_times)

-- a text that has no value of its kind, though it is not empty
abbrev pub is_wrong : (List ℕ → Option ℕ) → List ℕ → Bool
is_wrong value text = not (is_empty text) && is_none (value text)

-- what is wrong with a record's trip, stop and position
abbrev pub trip_stop_checks : List (List ℕ) → List (List ℕ) → TimeRow → List What
trip_stop_checks trips stops r =
    when (is_empty r.trip) what.EmptyId
    ++ when (is_none (position (bytes_eq r.trip) trips)) what.UnknownTrip
    ++ when (is_wrong (λ id. position (bytes_eq id) stops) r.stop) what.UnknownStop
    ++ when (is_none (number_of r.sequence)) what.BadNumber

-- what is wrong with its times and types
abbrev pub visit_checks : TimeRow → List What
visit_checks r =
    when (is_wrong time_of r.arrive) what.BadTime
    ++ when (is_wrong time_of r.depart) what.BadTime
    ++ when (is_wrong number_of r.pickup) what.BadNumber
    ++ when (is_wrong number_of r.drop_off) what.BadNumber

-- what is wrong with a record, in the order of the checks
abbrev pub checks : List (List ℕ) → List (List ℕ) → List TimeRow → TimeRow → List What
checks trips stops before r =
    when (nat_le MOST_EVENTS (length before)) what.TooMany
    ++ trip_stop_checks trips stops r
    ++ when (has_number (sequence_of r) (of_trip (trip_of trips r) (stop_times_of trips stops before))) what.DuplicateId
    ++ visit_checks r

-- the records of each trip from a number on, in ascending order of their sequence numbers
abbrev pub sorted_from : List (ℕ × StopTime) → ℕ → List (List ℕ) → List (List StopTime)
sorted_from trip_times t [] = []
sorted_from trip_times t (id ∷ ids) = in_order (of_trip t trip_times) ∷ sorted_from trip_times (t + 1) ids

-- the records of all trips, in the order of trips.txt
abbrev pub sorted_trips : List (List ℕ) → List (List ℕ) → List TimeRow → List (List StopTime)
sorted_trips trips stops rows = sorted_from (stop_times_of trips stops rows) 0 trips

-- the records after the header
abbrev pub time_rows : List ℕ → List TimeRow
time_rows bytes = table_rows row_of (records_of bytes)

-- all faults of the bytes of stop_times.txt, by the identifiers of the trips and of the stops: after those of the
-- records come those of whole trips
abbrev pub time_faults : List (List ℕ) → List (List ℕ) → List ℕ → List FeedFault
time_faults trips stops bytes =
    table_faults file.StopTimes required row_of (checks trips stops) (records_of bytes) ++ whole_trip_faults
    (sorted_trips trips stops (time_rows bytes))

-- the events of each trip
abbrev pub trip_events : List (List ℕ) → List (List ℕ) → List TimeRow → List (List Event)
trip_events trips stops rows = map events_of (sorted_trips trips stops rows)

-- the records of each trip from a number on, in file order
abbrev pub rows_from : List (List ℕ) → List TimeRow → ℕ → List (List ℕ) → List (List TimeRow)
rows_from trips rows t [] = []
rows_from trips rows t (id ∷ ids) = filter (λ r. trip_of trips r == t) rows ∷ rows_from trips rows (t + 1) ids

-- how many trips are set aside: those with a record that names no stop
abbrev pub trips_aside : List (List ℕ) → List TimeRow → ℕ
trips_aside trips rows = count_by (list_any (λ r. is_empty r.stop)) (rows_from trips rows 0 trips)

-- the lists have the records of each trip
pub record AreStopTimes (trips stops : List (List ℕ)) (trip_times : List (List StopTime)) (rows : List TimeRow) : Type 0
  where
    pub few : length rows ≤ MOST_EVENTS
    pub sorted : trip_times ≡ sorted_trips trips stops rows
    pub total : sum_by length trip_times ≡ length rows
    pub sound : All (All (IsSound (length stops))) trip_times
