-- What a feed says, and what is true of every feed.
-- (GTFS Schedule reference. The limits are those of a network.)
use Rattle.std.specs.Prelude.{◌≡◌, ◌<◌, ◌≤◌, ℕ, List, [], length, map, sum_by, All}
use Rattle.std.specs.List.{IsDistinct}
use Rattle.std.specs.Str.{bytes_eq}
use Rattle.timetable.specs.declared.limits.TheConstants.{MOST_EVENTS, MOST_STOPS, MOST_TRIPS}
use Rattle.timetable.specs.Trips.{EventsRise}
use Rattle.timetable.specs.declared.trips.StopNo.{StopNo}
use Rattle.table_records.specs.declared.limits.TheConstants.{MOST_BYTES}
use Rattle.table_files.specs.Children.{AreChildren, IsPlace}
use Rattle.table_files.specs.Transfers.{IsLink}
use Rattle.table_files.specs.declared.place.Place.{Place}
use Rattle.table_files.specs.declared.services.TheConstants.{MOST_SERVICES}
use Rattle.table_files.specs.declared.transfers.Link.{Link}
use Rattle.table_files.specs.Calendar as calendar
use Rattle.table_files.specs.CalendarDates as calendar_dates
use Rattle.table_files.specs.declared.calendar.CalendarRow.{CalendarRow}
use Rattle.table_files.specs.declared.calendar_dates.ExceptionRow.{ExceptionRow}
use Rattle.table_files.specs.declared.frequencies.Departures.{Departures}
use Rattle.gtfs_tables.specs.declared.trip.FeedTrip.{FeedTrip}
pub use Rattle.table_files.specs.Calendar.{CalendarData}
pub use Rattle.table_files.specs.CalendarDates.{ExceptionData}
pub use Rattle.table_files.specs.Days.{day_number}

-- the identifiers of all places, and what each of them is; the identifiers of the stops, each at its number, and the
-- stops of each station; the identifiers of the routes and services; the rows of both calendars; the trips, and how
-- many of them were set aside; the walks and change times that transfers.txt gives, and how many of its rows give none
pub record FeedData : Type 0 where
  pub names : List (List ℕ)
  pub places : List Place
  pub stops : List (List ℕ)
  pub children : List (List StopNo)
  pub routes : List (List ℕ)
  pub services : List (List ℕ)
  pub calendar : List CalendarData
  pub exceptions : List ExceptionData
  pub trips : List FeedTrip
  pub aside : ℕ
  pub links : List Link
  pub unused : ℕ

-- the same feed without trips
abbrev pub without_trips : FeedData → FeedData
without_trips d = record {
  names = d.names;
  places = d.places;
  stops = d.stops;
  children = d.children;
  routes = d.routes;
  services = d.services;
  calendar = d.calendar;
  exceptions = d.exceptions;
  trips = [];
  aside = 0;
  links = d.links;
  unused = d.unused;
}

-- a row's two times are within 168 hours, and its headway is at least a second
pub record IsDeparting (row : Departures) : Type 0 where
  pub start : row.start ≤ 604799
  pub end : row.end ≤ 604799
  pub headway : 1 ≤ row.headway

-- no two stops share an identifier, nor two routes, services or trips; the limits are kept, each event is at one of the
-- stops and within 168 hours, no trip goes back in time, and numbers of stops, stations, routes and services are those
-- of the feed
pub record IsFeed (d : FeedData) : Type 0 where
  pub few_names : length d.names ≤ MOST_STOPS
  pub few_stops : length d.stops ≤ MOST_STOPS
  pub few_routes : length d.routes ≤ MOST_BYTES
  pub few_services : length d.services ≤ MOST_SERVICES
  pub distinct_stops : IsDistinct bytes_eq d.stops
  pub distinct_routes : IsDistinct bytes_eq d.routes
  pub distinct_services : IsDistinct bytes_eq d.services
  pub distinct_trips : IsDistinct bytes_eq (map (λ t. t.id) d.trips)
  pub few_trips : length d.trips ≤ MOST_TRIPS
  pub few_events : sum_by (λ t. length t.events) d.trips ≤ MOST_EVENTS
  pub at_stops : All (λ t. All (λ e. e.stop.0 < length d.stops) t.events) d.trips
  pub in_time : All (λ t. All (λ e. (e.arrive ≤ 604799) × (e.depart ≤ 604799)) t.events) d.trips
  pub rise : All (λ t. EventsRise t.events) d.trips
  pub of_routes : All (λ t. t.route < length d.routes) d.trips
  pub of_services : All (λ t. t.service < length d.services) d.trips
  pub departing : All (λ t. All IsDeparting t.departures) d.trips
  pub calendar_services : All (λ r. r.service < length d.services) d.calendar
  pub exception_services : All (λ r. r.service < length d.services) d.exceptions
  pub few_aside : d.aside ≤ length d.trips
  pub as_many : length d.places ≡ length d.names
  pub places : All (IsPlace (length d.stops) (length d.children)) d.places
  pub children : AreChildren (length d.stops) d.children
  pub links : All (IsLink (length d.stops) (length d.children)) d.links

-- the values that a row of a calendar keeps, its dates as day numbers
abbrev pub calendar_data : CalendarRow → CalendarData
calendar_data = calendar.shown

abbrev pub exception_data : ExceptionRow → ExceptionData
exception_data = calendar_dates.shown
