-- The network of a scenario: the runs of the trips that it keeps, each with its times moved, and the footpaths.
-- (Axis times lie from 0 to before 16,777,216. The limits are those of a network.)
use Rattle.std.specs.Prelude.{◌&&◌, ◌+ℤ◌, ℕ, ℤ, Bool, true, not, List, [], ◌∷◌, Option, Some, None, int_lt, length, map}
use Rattle.std.specs.Prelude.{nat_le, pos, slice_get, sum_by, unsigned_abs, if◌then◌else◌}
use Rattle.std.specs.List.{flat_map, list_all}
use Rattle.timetable.specs.declared.limits.TheConstants.{END_OF_AXIS, MOST_EVENTS, MOST_TRIPS}
use Rattle.timetable.specs.declared.faults.NetFault.{NetFault}
use Rattle.timetable.specs.declared.faults.NetFault.TheVariants.{TooLarge}
use Rattle.timetable.specs.declared.trips.Event.{Event}
use Rattle.timetable.specs.declared.trips.Trip.{Trip}
use Rattle.timetable.specs.Footpaths.{FeetData}
use Rattle.timetable.specs.Networks.{Net}
use Rattle.gtfs_tables.specs.declared.trip.FeedTrip.{FeedTrip}
use Rattle.gtfs_tables.specs.Feed.{FeedData}
use Rattle.service_days.specs.declared.run.Run.{Run}
use Rattle.service_days.specs.Instances.{instance_events}
use Rattle.scenarios.specs.Edits.{keeps_of, shift_of}
use Rattle.scenarios.specs.ScenarioData.{ScenarioData}

-- a time moved by seconds
abbrev pub moved_time : ℤ → ℕ → ℕ
moved_time seconds time = unsigned_abs (pos time +ℤ seconds)

-- it is then a time of the axis
abbrev pub is_on_axis : ℤ → ℕ → Bool
is_on_axis seconds time = not (int_lt (pos time +ℤ seconds) (pos 0)) && int_lt (pos time +ℤ seconds) (pos END_OF_AXIS)

-- an event with both times moved, and whether both are then times of the axis
abbrev pub moved_event : ℤ → Event → Event
moved_event seconds e = record e { arrive = moved_time seconds e.arrive; depart = moved_time seconds e.depart }

abbrev pub is_event_on_axis : ℤ → Event → Bool
is_event_on_axis seconds e = is_on_axis seconds e.arrive && is_on_axis seconds e.depart

-- what is added to the times of a run's trip
abbrev pub sum_of : ScenarioData → Run → ℤ
sum_of scenario run = run.shift +ℤ shift_of scenario.edits run.trip

-- the trip with a number, its instance moved by seconds
abbrev pub moved_trip : FeedTrip → ℕ → ℤ → Trip
moved_trip trip number seconds = record {
  route = trip.route;
  name = number;
  events = map (moved_event seconds) (instance_events trip);
}

-- the trip of a run, where the scenario keeps it
abbrev pub kept_trip : ScenarioData → Run → Option FeedTrip → List Trip
kept_trip scenario run None = []
kept_trip scenario run (Some trip) =
    if keeps_of scenario.edits run.trip trip.route then moved_trip trip run.trip (sum_of scenario run) ∷ [] else []

-- all its times are on the axis
abbrev pub stays : ScenarioData → Run → Option FeedTrip → Bool
stays scenario run None = true
stays scenario run (Some trip) =
    if keeps_of scenario.edits run.trip trip.route then list_all (is_event_on_axis (sum_of scenario run))
    (instance_events trip) else true

-- the trips of the kept runs, in their order
abbrev pub trips_of : FeedData → ScenarioData → List Run → List Trip
trips_of feed scenario runs = flat_map (λ run. kept_trip scenario run (slice_get feed.trips run.trip)) runs

-- all kept runs are on the axis
abbrev pub are_on_axis : FeedData → ScenarioData → List Run → Bool
are_on_axis feed scenario runs = list_all (λ run. stays scenario run (slice_get feed.trips run.trip)) runs

-- trips and events are not too many
abbrev pub are_few : List Trip → Bool
are_few trips = nat_le (length trips) MOST_TRIPS && nat_le (sum_by (λ t. length t.events) trips) MOST_EVENTS

-- the network of a scenario
abbrev pub net_of : FeedData → ScenarioData → List Run → FeetData → Net
net_of feed scenario runs feet = record { stops = length feed.stops; trips = trips_of feed scenario runs; feet = feet }

-- the runs make a network: it is not too large
abbrev pub fits : FeedData → ScenarioData → List Run → Bool
fits feed scenario runs = are_few (trips_of feed scenario runs) && are_on_axis feed scenario runs

-- why there is none
abbrev pub net_faults : FeedData → ScenarioData → List Run → List NetFault
net_faults feed scenario runs = if fits feed scenario runs then [] else TooLarge ∷ []
