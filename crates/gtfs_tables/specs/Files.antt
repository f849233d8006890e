-- What the files of a feed state, and their faults in order: by file, then by record, then by check; of
-- stop_times.txt those of whole trips last.
-- (GTFS Schedule reference, "Dataset Files": stops.txt, routes.txt, trips.txt and stop_times.txt are required;
-- calendar.txt is required unless calendar_dates.txt is there.)
use Rattle.std.specs.Prelude.{◌≤◌, ℕ, List, [], ◌∷◌, ◌++◌, length, map, Option, Some, None, is_none, option_map}
use Rattle.std.specs.Prelude.{if◌then◌else◌}
use Rattle.std.specs.Option.{ForSome}
use Rattle.std.proofs.Common.{Bor}
use Rattle.table_records.specs.declared.fault.FeedFault.{FeedFault}
use Rattle.table_records.specs.declared.fault.FileName.{FileName}
use Rattle.table_records.specs.declared.fault.FileName.TheVariants as file
use Rattle.table_records.specs.declared.fault.What.TheVariants.{MissingFile}
use Rattle.table_records.specs.declared.limits.TheConstants.{MOST_BYTES}
use Rattle.table_files.specs.Places as places
use Rattle.table_files.specs.Transfers as transfers
use Rattle.table_files.specs.Routes.{route_faults, route_ids}
use Rattle.table_files.specs.Calendar as calendar
use Rattle.table_files.specs.CalendarDates as dates
use Rattle.table_files.specs.FeedTrips as trips
use Rattle.table_files.specs.Frequencies.{departures_by_trip, frequency_faults, frequency_rows}
use Rattle.trip_events.specs.StopTimes.{time_faults, time_rows, trip_events, trips_aside}
use Rattle.table_files.specs.declared.feed_trips.TripNumbers.{TripNumbers}
use Rattle.table_files.specs.declared.frequencies.Departures.{Departures}
use Rattle.table_files.specs.declared.transfers.Link.{Link}
use Rattle.timetable.specs.declared.trips.Event.{Event}
use Rattle.gtfs_tables.specs.Feed.{CalendarData, ExceptionData, FeedData}
use Rattle.gtfs_tables.specs.declared.feed_bytes.FeedBytes.{FeedBytes}
use Rattle.gtfs_tables.specs.declared.trip.FeedTrip.{FeedTrip}

abbrev pub Bytes : Type 0
Bytes = List ℕ

-- the files of a feed, of which some may be absent
pub record FeedFiles : Type 0 where
  pub stops : Option Bytes
  pub routes : Option Bytes
  pub calendar : Option Bytes
  pub calendar_dates : Option Bytes
  pub trips : Option Bytes
  pub stop_times : Option Bytes
  pub frequencies : Option Bytes
  pub transfers : Option Bytes

-- a file as a program holds it
abbrev pub bytes_of : Option (Bor Bytes) → Option Bytes
bytes_of file = option_map (λ x. x.now) file

-- the files as a program holds them
abbrev pub files_of : FeedBytes → FeedFiles
files_of b = record {
  stops = bytes_of b.stops;
  routes = bytes_of b.routes;
  calendar = bytes_of b.calendar;
  calendar_dates = bytes_of b.calendar_dates;
  trips = bytes_of b.trips;
  stop_times = bytes_of b.stop_times;
  frequencies = bytes_of b.frequencies;
  transfers = bytes_of b.transfers;
}

-- a file has at most 2^30 bytes, or is absent
abbrev pub IsWithinLimit : Option Bytes → Type 0
IsWithinLimit file = ForSome file (λ bytes. length bytes ≤ MOST_BYTES)

-- each file that is there keeps the limit of an input file
pub record AreWithinLimit (files : FeedFiles) : Type 0 where
  pub stops : IsWithinLimit files.stops
  pub routes : IsWithinLimit files.routes
  pub calendar : IsWithinLimit files.calendar
  pub calendar_dates : IsWithinLimit files.calendar_dates
  pub trips : IsWithinLimit files.trips
  pub stop_times : IsWithinLimit files.stop_times
  pub frequencies : IsWithinLimit files.frequencies
  pub transfers : IsWithinLimit files.transfers

-- the faults of a file that must be there
abbrev pub required : FileName → (Bytes → List FeedFault) → Option Bytes → List FeedFault
required name faults None = record { file = name; at = 0; what = MissingFile } ∷ []
required name faults (Some bytes) = faults bytes

-- the faults of a file that may be absent
abbrev pub optional : (Bytes → List FeedFault) → Option Bytes → List FeedFault
optional faults None = []
optional faults (Some bytes) = faults bytes

-- the rows of a file, none where it is absent
abbrev pub rows_in : {R : Type 0} → (Bytes → List R) → Option Bytes → List R
rows_in rows None = []
rows_in rows (Some bytes) = rows bytes

-- the places of stops.txt: the stops, the stations and the others
abbrev pub places_in : FeedFiles → places.PlaceData
places_in files = places.places_in (rows_in places.place_records files.stops)

-- the identifiers of all places, of the stops, of the routes and of the trips, each in file order
abbrev pub names_in : FeedFiles → List (List ℕ)
names_in files = places.names_of (rows_in places.place_records files.stops)

abbrev pub stops_in : FeedFiles → List (List ℕ)
stops_in files = places.stops_of (rows_in places.place_records files.stops)

abbrev pub routes_in : FeedFiles → List (List ℕ)
routes_in files = rows_in route_ids files.routes

abbrev pub trip_ids_in : FeedFiles → List (List ℕ)
trip_ids_in files = trips.trip_ids (rows_in trips.trip_rows files.trips)

-- the services that calendar.txt names
abbrev pub calendar_services_in : FeedFiles → List (List ℕ)
calendar_services_in files = calendar.services_of (rows_in calendar.service_rows files.calendar)

-- and then those that calendar_dates.txt names first
abbrev pub dated_services_in : FeedFiles → List (List ℕ)
dated_services_in files = dates.services_after (calendar_services_in files)
    (rows_in dates.date_rows files.calendar_dates)

-- and then those that trips.txt names first: all services, each at its number
abbrev pub services_in : FeedFiles → List (List ℕ)
services_in files = trips.services_after (dated_services_in files) (rows_in trips.trip_rows files.trips)

-- the rows of calendar.txt
abbrev pub calendar_in : FeedFiles → List CalendarData
calendar_in files = map (calendar.data_of (services_in files)) (rows_in calendar.service_rows files.calendar)

-- the rows of calendar_dates.txt
abbrev pub exceptions_in : FeedFiles → List ExceptionData
exceptions_in files = map (dates.data_of (services_in files)) (rows_in dates.date_rows files.calendar_dates)

-- the numbers of each trip's route and service
abbrev pub numbers_in : FeedFiles → List TripNumbers
numbers_in files = map (trips.numbers_of (routes_in files) (services_in files)) (rows_in trips.trip_rows files.trips)

-- the events of each trip
abbrev pub events_in : FeedFiles → List (List Event)
events_in files = trip_events (trip_ids_in files) (stops_in files) (rows_in time_rows files.stop_times)

-- how many trips are set aside
abbrev pub aside_in : FeedFiles → ℕ
aside_in files = trips_aside (trip_ids_in files) (rows_in time_rows files.stop_times)

-- each trip's rows of frequencies.txt
abbrev pub departures_in : FeedFiles → List (List Departures)
departures_in files = departures_by_trip (trip_ids_in files) (rows_in frequency_rows files.frequencies)

-- the walks that transfers.txt gives
abbrev pub links_in : FeedFiles → List Link
links_in files = transfers.links_of (places_in files) (rows_in transfers.transfer_rows files.transfers)

-- how many of its rows give none
abbrev pub unused_in : FeedFiles → ℕ
unused_in files = transfers.unused_of (places_in files) (rows_in transfers.transfer_rows files.transfers)

-- the faults of each file
abbrev pub faults_of_stops : FeedFiles → List FeedFault
faults_of_stops files = required file.Stops places.stop_faults files.stops

abbrev pub faults_of_routes : FeedFiles → List FeedFault
faults_of_routes files = required file.Routes route_faults files.routes

-- calendar.txt may be absent where calendar_dates.txt is there
abbrev pub faults_of_calendar : FeedFiles → List FeedFault
faults_of_calendar files =
    if is_none files.calendar_dates then required file.Calendar calendar.calendar_faults files.calendar else optional
    calendar.calendar_faults files.calendar

abbrev pub faults_of_calendar_dates : FeedFiles → List FeedFault
faults_of_calendar_dates files = optional dates.exception_faults files.calendar_dates

abbrev pub faults_of_trips : FeedFiles → List FeedFault
faults_of_trips files = required file.Trips (trips.trip_faults (routes_in files)) files.trips

abbrev pub faults_of_stop_times : FeedFiles → List FeedFault
faults_of_stop_times files = required file.StopTimes (time_faults (trip_ids_in files) (stops_in files)) files.stop_times

abbrev pub faults_of_frequencies : FeedFiles → List FeedFault
faults_of_frequencies files = optional (frequency_faults (trip_ids_in files)) files.frequencies

abbrev pub faults_of_transfers : FeedFiles → List FeedFault
faults_of_transfers files = optional (transfers.transfer_faults (names_in files)) files.transfers

-- the faults of the files that name stops, routes, services and trips
abbrev pub catalog_faults : FeedFiles → List FeedFault
catalog_faults files =
    faults_of_stops files ++ faults_of_routes files ++ faults_of_calendar files ++ faults_of_calendar_dates
    files ++ faults_of_trips files

-- all faults of a feed, in the order of its files
abbrev pub feed_faults : FeedFiles → List FeedFault
feed_faults files = catalog_faults files ++ faults_of_stop_times files ++ faults_of_frequencies
    files ++ faults_of_transfers files

-- the trips by their identifiers, numbers, events and departures
abbrev pub trips_of : List (List ℕ) → List TripNumbers → List (List Event) → List (List Departures) → List FeedTrip
trips_of (id ∷ ids) (n ∷ numbers) (e ∷ events) (d ∷ departures) =
    record {
      route = n.route;
      service = n.service;
      id = id;
      events = e;
      departures = d;
    } ∷ trips_of ids numbers events departures
trips_of _ _ _ _ = []

-- what the files state
abbrev pub feed_of : FeedFiles → FeedData
feed_of files = record {
  names = names_in files;
  places = (places_in files).places;
  stops = stops_in files;
  children = (places_in files).children;
  routes = routes_in files;
  services = services_in files;
  calendar = calendar_in files;
  exceptions = exceptions_in files;
  trips = trips_of (trip_ids_in files) (numbers_in files) (events_in files) (departures_in files);
  aside = aside_in files;
  links = links_in files;
  unused = unused_in files;
}
