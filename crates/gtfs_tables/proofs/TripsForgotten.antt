-- A feed without its trips.
use Rattle.std.proofs.Common.{[], arith}
use Rattle.std.proofs.lemmas.List.Elements.{All-nil}
use Rattle.std.specs.List.{IsDistinct}
use Rattle.std.specs.Str.{bytes_eq}
use Rattle.gtfs_tables.specs.Feed.{FeedData, IsFeed, without_trips}

nothing_distinct : IsDistinct bytes_eq []
unfolding IsDistinct
nothing_distinct = tt

-- what is true of every feed is true without trips
pub is_feed : (d : FeedData) → IsFeed d → IsFeed (without_trips d)
is_feed d whole = record {
  few_names = whole.few_names;
  few_stops = whole.few_stops;
  few_routes = whole.few_routes;
  few_services = whole.few_services;
  distinct_stops = whole.distinct_stops;
  distinct_routes = whole.distinct_routes;
  distinct_services = whole.distinct_services;
  distinct_trips = nothing_distinct;
  few_trips = omega arith;
  few_events = omega arith;
  at_stops = All-nil _;
  in_time = All-nil _;
  rise = All-nil _;
  of_routes = All-nil _;
  of_services = All-nil _;
  departing = All-nil _;
  calendar_services = whole.calendar_services;
  exception_services = whole.exception_services;
  few_aside = omega arith;
  as_many = whole.as_many;
  places = whole.places;
  children = whole.children;
  links = whole.links;
}
