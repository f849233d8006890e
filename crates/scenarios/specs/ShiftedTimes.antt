-- Which trips are shifted too far. All times of a trip, those of every departure where it has frequency rows, are to
-- lie between 0 and 1,999,999 seconds of its service day once all its shifts are added, whether or not it is kept or
-- ever runs.
use Rattle.std.specs.Prelude.{◌≡◌, ◌==◌, ◌&&◌, ◌+◌, ◌++◌, ◌+ℤ◌, ◌<◌, ⊤, ℕ, ℤ, Bool, false, not, List, [], ◌∷◌}
use Rattle.std.specs.Prelude.{MatchOption, Option, Some, None, int_lt, length, pos, slice_get, if◌then◌else◌}
use Rattle.std.specs.List.{list_all, list_any}
use Rattle.timetable.specs.declared.trips.Event.{Event}
use Rattle.table_records.specs.Faults.{IsFirst}
use Rattle.gtfs_tables.specs.declared.trip.FeedTrip.{FeedTrip}
use Rattle.gtfs_tables.specs.Feed.{FeedData}
use Rattle.service_days.specs.Instances.{instance_events, runs_of_trip}
use Rattle.scenarios.specs.Edits.{shift_of}
use Rattle.scenarios.specs.declared.edits.Edit.{Edit}
use Rattle.scenarios.specs.declared.edits.Edit.TheVariants.{RemoveRoute, RemoveTrip, Shift}
use Rattle.scenarios.specs.declared.faults.ScenarioFault.{ScenarioFault}
use Rattle.scenarios.specs.declared.faults.ScenarioWhat.TheVariants as what
use Rattle.scenarios.specs.declared.edits.TheConstants.{END_OF_TIMES}

-- a time of a service day, moved by seconds, isn't before the day
abbrev pub begins_in_range : ℤ → ℕ → Bool
begins_in_range seconds time = not (int_lt (pos time +ℤ seconds) (pos 0))

-- nor past the greatest time
abbrev pub ends_in_range : ℤ → ℕ → Bool
ends_in_range seconds time = int_lt (pos time +ℤ seconds) (pos END_OF_TIMES)

abbrev pub stays_in_range : ℤ → ℕ → Bool
stays_in_range seconds time = begins_in_range seconds time && ends_in_range seconds time

-- both times of an event are in range
abbrev pub is_event_in_range : ℤ → Event → Bool
is_event_in_range seconds e = stays_in_range seconds e.arrive && stays_in_range seconds e.depart

-- a departure at a time is, where the trip ends `length` seconds after it
abbrev pub is_departure_in_range : ℤ → ℕ → ℕ → Bool
is_departure_in_range seconds length time = begins_in_range seconds time && ends_in_range seconds (time + length)

-- all times of all instances of a trip on a service day are
abbrev pub is_trip_in_range : ℤ → FeedTrip → Bool
is_trip_in_range seconds trip = list_all
    (λ run. list_all (is_event_in_range (run.shift +ℤ seconds)) (instance_events trip)) (runs_of_trip 0 0 trip)

-- edits together shift a trip too far
abbrev pub goes_out : List Edit → ℕ → Option FeedTrip → Bool
goes_out edits number None = false
goes_out edits number (Some trip) = not (is_trip_in_range (shift_of edits number) trip)

-- a shift is of a trip of the feed
abbrev pub NamesTrip : FeedData → Edit → Type 0
NamesTrip feed (RemoveRoute r) = ⊤
NamesTrip feed (RemoveTrip t) = ⊤
NamesTrip feed (Shift t seconds) = t < length feed.trips

-- an edit shifts a trip
abbrev pub shifts_trip : ℕ → Edit → Bool
shifts_trip trip (RemoveRoute r) = false
shifts_trip trip (RemoveTrip t) = false
shifts_trip trip (Shift t seconds) = t == trip

-- an edit is the last that shifts its trip, before `later` ones, and `all` edits together shift it too far
abbrev pub is_last_too_far : FeedData → List Edit → Edit → List Edit → Bool
is_last_too_far feed all (RemoveRoute r) later = false
is_last_too_far feed all (RemoveTrip t) later = false
is_last_too_far feed all (Shift t seconds) later =
    not (list_any (shifts_trip t) later) && goes_out all t (slice_get feed.trips t)

-- the fault at a record
abbrev pub too_far : ℕ → ScenarioFault
too_far at = record { at = at; what = what.ShiftOutOfRange }

-- the faults of edits, the first of which is that of the record `at`, among `all` edits
abbrev pub range_faults : FeedData → List Edit → ℕ → List Edit → List ScenarioFault
range_faults feed all at [] = []
range_faults feed all at (e ∷ later) =
    (if is_last_too_far feed all e later then too_far at ∷ [] else []) ++ range_faults feed all (at + 1) later

-- the record of the first of them, where there is one
abbrev pub TellsRecord : Option ℕ → List ScenarioFault → Type 0
TellsRecord first faults = MatchOption first (faults ≡ []) (λ at. IsFirst (too_far at) faults)
