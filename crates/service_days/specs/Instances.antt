-- The instances of a feed's trips on the service days of a study, as runs: what is added to the times of which trip.
-- A trip runs once on each day of its service; with rows in frequencies.txt it runs only as their departures.
-- (GTFS Schedule reference, frequencies.txt. Service days lie 86,400 seconds apart on the axis.)
use Rattle.std.specs.Prelude.{◌≡◌, ◌==◌, ◌||◌, ◌+◌, ◌-◌, ◌*◌, ◌<◌, ◌≤ℤ◌, ◌+ℤ◌, ◌-ℤ◌, ℕ, Bool, not, List, [], ◌∷◌, ◌++◌}
use Rattle.std.specs.Prelude.{All, Some, length, map, nat_lt, neg_ℤ, pos, slice_get, if◌then◌else◌}
use Rattle.std.specs.List.{enumerate_from, filter, flat_map, range_with_len}
use Rattle.timetable.specs.declared.trips.Event.{Event}
use Rattle.table_files.specs.declared.frequencies.Departures.{Departures}
use Rattle.gtfs_tables.specs.declared.trip.FeedTrip.{FeedTrip}
use Rattle.gtfs_tables.specs.Feed.{FeedData}
use Rattle.service_days.specs.declared.fault.DayFault.{DayFault}
use Rattle.service_days.specs.declared.fault.DayFault.TheVariants.{DateRange, TooMany, Memory}
use Rattle.service_days.specs.declared.run.Run.{Run}
use Rattle.service_days.specs.declared.run_list.TheConstants.{MOST_RUNS}
use Rattle.service_days.specs.declared.day.TheConstants.{LAST_DAY, LAST_START}
use Rattle.service_days.specs.Services.{runs_on}

-- a trip runs as the departures of frequency rows
abbrev pub has_rows : FeedTrip → Bool
has_rows trip = not (length trip.departures == 0)

-- when a list of events first departs
abbrev pub first_departure : List Event → ℕ
first_departure [] = 0
first_departure (first ∷ events) = first.depart

-- the same events, of which the first arrives as it departs
abbrev pub arriving_at_departure : List Event → List Event
arriving_at_departure [] = []
arriving_at_departure (first ∷ events) = record first { arrive = first.depart } ∷ events

-- the events that each instance of a trip moves: the first arrival of a frequency departure is its first departure
abbrev pub instance_events : FeedTrip → List Event
instance_events trip = if has_rows trip then arriving_at_departure trip.events else trip.events

-- the departures of a frequency row: start + x * headway for x = 0, 1, .. strictly below its end
abbrev pub departures_of : Departures → List ℕ
departures_of row = filter (λ time. nat_lt time row.end)
    (map (λ x. row.start + x * row.headway) (range_with_len 0 row.end))

-- the run that departs at a time of the day, where the trip first departs at another
abbrev pub departing : ℕ → ℕ → ℕ → ℕ → Run
departing base trip first time = record { trip = trip; shift = pos (base + time) -ℤ pos first }

-- the runs of a frequency row on the day that begins at the base
abbrev pub runs_of_row : ℕ → ℕ → ℕ → Departures → List Run
runs_of_row base trip first row = map (departing base trip first) (departures_of row)

-- the runs of a trip on a day of its service; a trip without events never runs
abbrev pub runs_of_trip : ℕ → ℕ → FeedTrip → List Run
runs_of_trip base number trip =
    if length trip.events == 0 then []
    else if has_rows trip then flat_map (runs_of_row base number (first_departure trip.events)) trip.departures
    else record { trip = number; shift = pos base } ∷ []

-- the same, where the day is one of its service
abbrev pub runs_if : FeedData → ℕ → ℕ → ℕ → FeedTrip → List Run
runs_if feed day base number trip = if runs_on feed trip.service day then runs_of_trip base number trip else []

-- the runs of all trips on a day, trip by trip
abbrev pub runs_of_day : FeedData → ℕ → ℕ → List Run
runs_of_day feed day base = flat_map (λ (at : ℕ × FeedTrip). runs_if feed day base at.0 at.1)
    (enumerate_from 0 feed.trips)

-- the runs of successive days, day by day
abbrev pub runs_of_days : FeedData → ℕ → ℕ → List Run
runs_of_days feed first days = flat_map (λ x. runs_of_day feed (first + x) (86400 * x)) (range_with_len 0 days)

-- the runs from `back` days before a day to `ahead` days after it
abbrev pub runs_of : FeedData → ℕ → ℕ → ℕ → List Run
runs_of feed day back ahead = runs_of_days feed (day - back) (back + ahead + 1)

-- one of these days is no date: it lies before the year -9999 or after the year 9999
abbrev pub is_out_of_range : ℕ → ℕ → ℕ → Bool
is_out_of_range day back ahead = nat_lt day back || nat_lt LAST_DAY (day + ahead)

-- why the runs aren't listed, in order
abbrev pub day_faults : FeedData → ℕ → ℕ → ℕ → List DayFault
day_faults feed day back ahead =
    (if is_out_of_range day back ahead then DateRange ∷ [] else [])
    ++ (if nat_lt MOST_RUNS (length (runs_of feed day back ahead)) then TooMany ∷ [] else [])

-- why a list of n runs is refused
abbrev pub IsListFault : DayFault → ℕ → Type 0
IsListFault DateRange n = ⊥
IsListFault TooMany n = MOST_RUNS < n
IsListFault Memory n = Unit {0}

-- a run names a trip that has events, and moves its times by less than a week back and by no more than a week and all
-- days of the calendar ahead, none of them to before the axis
pub record IsRun (feed : FeedData) (run : Run) : Type 0 where
  pub trip : FeedTrip
  pub at : slice_get feed.trips run.trip ≡ Some trip
  pub has_events : 0 < length trip.events
  pub low : neg_ℤ (pos 604799) ≤ℤ run.shift
  pub high : run.shift ≤ℤ pos (LAST_START + 604799)
  pub times : All (λ e. (pos 0 ≤ℤ (pos e.arrive +ℤ run.shift))
      × (pos 0 ≤ℤ (pos e.depart +ℤ run.shift))) (instance_events trip)
