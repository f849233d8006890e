-- The catalog of a feed: its places, routes, services and trips, by number, before their times are read.
use Rattle.std.specs.Prelude.{◌≡◌, ◌≤◌, length, map}
use Rattle.timetable.specs.declared.limits.TheConstants.{MOST_TRIPS}
use Rattle.table_records.specs.declared.limits.TheConstants.{MOST_BYTES}
use Rattle.table_files.specs.Places.{ArePlaces}
use Rattle.table_files.specs.declared.services.TheConstants.{MOST_SERVICES}
use Rattle.gtfs_tables.specs.Feed.{calendar_data, exception_data}
use Rattle.gtfs_tables.specs.Files.{FeedFiles, calendar_in, exceptions_in, places_in, numbers_in, routes_in}
use Rattle.gtfs_tables.specs.Files.{services_in, trip_ids_in}
use Rattle.gtfs_tables.specs.declared.catalog.Catalog.{Catalog}

-- the catalog that the files state; what it names is few enough, and its places are those of one file
pub record IsCatalog (c : Catalog) (files : FeedFiles) : Type 0 where
  pub places : c.places ≡ places_in files
  pub routes : c.routes ≡ routes_in files
  pub calendar : map calendar_data c.calendar.items ≡ calendar_in files
  pub exceptions : map exception_data c.exceptions.items ≡ exceptions_in files
  pub services : c.trips.services ≡ services_in files
  pub trip_ids : c.trips.ids ≡ trip_ids_in files
  pub numbers : c.trips.numbers.items ≡ numbers_in files
  pub sound_places : ArePlaces c.places
  pub few_routes : length c.routes ≤ MOST_BYTES
  pub few_services : length c.trips.services ≤ MOST_SERVICES
  pub few_trips : length c.trips.ids ≤ MOST_TRIPS
