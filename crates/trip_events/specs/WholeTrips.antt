-- What is checked once all records of a trip are known, and the events that they give.
-- The first and the last event need a time. A trip goes back at a timed event that departs before it arrives,
-- or arrives before the timed event before it departs. A trip that is set aside isn't checked and has no events.
-- (GTFS Schedule reference, stop_times.txt: arrival_time, departure_time.)
use Rattle.std.specs.Prelude.{◌≤◌, ◌<◌, ◌-◌, ◌||◌, ℕ, Bool, false, List, [], ◌∷◌, ◌++◌, length, map, slice_get, sum_by}
use Rattle.std.specs.Prelude.{All, Option, Some, None, is_none, nat_lt, if◌then◌else◌}
use Rattle.std.specs.List.{list_any}
use Rattle.timetable.specs.declared.limits.TheConstants.{MOST_EVENTS}
use Rattle.timetable.specs.Trips.{EventsRise}
use Rattle.timetable.specs.declared.trips.Event.{Event}
use Rattle.table_records.specs.declared.fault.FeedFault.{FeedFault}
use Rattle.table_records.specs.declared.fault.FileName.TheVariants.{StopTimes}
use Rattle.table_records.specs.declared.fault.What.{What}
use Rattle.table_records.specs.declared.fault.What.TheVariants.{NoTime, TimesGoBack}
use Rattle.trip_events.specs.Fill.{filled}
use Rattle.trip_events.specs.declared.trip_times.StopTime.{StopTime}
use Rattle.trip_events.specs.declared.trip_times.VisitTimes.{VisitTimes}

-- whether a trip is set aside: one of its records names no stop
abbrev pub is_aside : List StopTime → Bool
is_aside trip_times = list_any (λ s. is_none s.stop) trip_times

-- the record of an event, if it has no time
abbrev pub untimed : Option StopTime → List ℕ
untimed None = []
untimed (Some s) = if is_none s.times then s.at ∷ [] else []

-- the records of the first and the last event, where they have no time
abbrev pub untimed_ends : List StopTime → List ℕ
untimed_ends trip_times = untimed (slice_get trip_times 0) ++ untimed (slice_get trip_times (length trip_times - 1))

-- whether a trip goes back at an event, given the last departure before it
abbrev pub goes_back : ℕ → Option VisitTimes → Bool
goes_back last None = false
goes_back last (Some t) = nat_lt t.arrive last || nat_lt t.depart t.arrive

-- the last departure once an event is over
abbrev pub departed : ℕ → Option VisitTimes → ℕ
departed last None = last
departed last (Some t) = t.depart

-- the records at which a trip goes back
abbrev pub records_back : ℕ → List StopTime → List ℕ
records_back last [] = []
records_back last (s ∷ rest) = (if goes_back last s.times then s.at ∷ [] else []) ++ records_back
    (departed last s.times) rest

-- a fault at each of some records
abbrev pub faults_of : What → List ℕ → List FeedFault
faults_of w records = map (λ at. record { file = StopTimes; at = at; what = w }) records

-- the faults of a whole trip
abbrev pub trip_faults : List StopTime → List FeedFault
trip_faults trip_times = if is_aside trip_times then [] else faults_of NoTime (untimed_ends trip_times) ++ faults_of
    TimesGoBack (records_back 0 trip_times)

-- the faults of whole trips, trip by trip
abbrev pub whole_trip_faults : List (List StopTime) → List FeedFault
whole_trip_faults [] = []
whole_trip_faults (trip_times ∷ rest) = trip_faults trip_times ++ whole_trip_faults rest

-- the events of a trip
abbrev pub events_of : List StopTime → List Event
events_of trip_times = if is_aside trip_times then [] else filled trip_times

-- the events of all trips: few enough, each at one of the stops and within 168 hours, and no trip goes back in time
pub record AreEvents (stops : ℕ) (trips : List (List Event)) : Type 0 where
  pub few : sum_by length trips ≤ MOST_EVENTS
  pub at_stops : All (λ t. All (λ e. e.stop.0 < stops) t) trips
  pub in_time : All (λ t. All (λ e. (e.arrive ≤ 604799) × (e.depart ≤ 604799)) t) trips
  pub rise : All EventsRise trips
