-- The data of a feed, from its parts.
use Rattle.std.specs.Prelude.{ℕ, List, map}
use Rattle.table_files.specs.declared.transfers.Transfers.{Transfers}
use Rattle.gtfs_tables.specs.Feed.{FeedData, calendar_data, exception_data}
use Rattle.gtfs_tables.specs.declared.catalog.Catalog.{Catalog}
use Rattle.gtfs_tables.specs.declared.trip.FeedTrip.{FeedTrip}

-- what a catalog, its trips, how many of them were set aside, and the walks of transfers.txt say
abbrev pub data_of : Catalog → List FeedTrip → ℕ → Transfers → FeedData
data_of c trips aside transfers = record {
  names = c.places.names;
  places = c.places.places;
  stops = c.places.stops;
  children = c.places.children;
  routes = c.routes;
  services = c.trips.services;
  calendar = map calendar_data c.calendar.items;
  exceptions = map exception_data c.exceptions.items;
  trips = trips;
  aside = aside;
  links = transfers.links.items;
  unused = transfers.unused;
}
