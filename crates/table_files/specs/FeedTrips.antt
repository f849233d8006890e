-- What `trips.txt` says: the trips, each with its route and its service.
-- GTFS Schedule reference, trips.txt.
use Rattle.std.specs.Prelude.{◌≡◌, ℕ, List, [], ◌∷◌, ◌++◌, codes, is_none, length, map, nat_le, position}
use Rattle.std.specs.List.{list_any}
use Rattle.std.specs.Str.{bytes_eq}
use Rattle.timetable.specs.declared.limits.TheConstants.{MOST_TRIPS}
use Rattle.table_records.specs.Columns.{column, field}
use Rattle.table_records.specs.Fields.{is_empty}
use Rattle.table_records.specs.Faults.{when}
use Rattle.table_records.specs.Table.{records_of}
use Rattle.table_records.specs.declared.fault.FeedFault.{FeedFault}
use Rattle.table_records.specs.declared.fault.FileName.TheVariants as file
use Rattle.table_records.specs.declared.fault.What.{What}
use Rattle.table_records.specs.declared.fault.What.TheVariants as what
use Rattle.table_files.specs.declared.feed_trips.FeedTrips.{FeedTrips}
use Rattle.table_files.specs.declared.feed_trips.TripColumns.{TripColumns}
use Rattle.table_files.specs.declared.feed_trips.TripNumbers.{TripNumbers}
use Rattle.table_records.specs.Reading.{table_faults, table_rows}
use Rattle.table_records.specs.Identifiers.{number_in}
use Rattle.table_files.specs.Services.{named}

-- what counts of a record
pub record TripRow : Type 0 where
  pub route : List ℕ
  pub service : List ℕ
  pub id : List ℕ

abbrev pub required : List (List ℕ)
required = codes "route_id" ∷ codes "service_id" ∷ codes "trip_id" ∷ []

abbrev pub columns_of : List (List ℕ) → TripColumns
columns_of header = record {
  route = column header (codes "route_id");
  service = column header (codes "service_id");
  id = column header (codes "trip_id");
}

abbrev pub row_at : TripColumns → List (List ℕ) → TripRow
row_at c fields = record { route = field fields c.route; service = field fields c.service; id = field fields c.id }

abbrev pub row_of : List (List ℕ) → List (List ℕ) → TripRow
row_of header = row_at (columns_of header)

-- the faults of a record, in the order of their checks, by the identifiers of the feed's routes
abbrev pub checks : List (List ℕ) → List TripRow → TripRow → List What
checks routes before r =
    when (nat_le MOST_TRIPS (length before)) what.TooMany
    ++ when (is_empty r.route) what.EmptyId
    ++ when (is_none (position (bytes_eq r.route) routes)) what.UnknownRoute
    ++ when (is_empty r.service) what.EmptyId
    ++ when (is_empty r.id) what.EmptyId
    ++ when (list_any (bytes_eq r.id) (map (λ b. b.id) before)) what.DuplicateId

-- all faults of the bytes of `trips.txt`
abbrev pub trip_faults : List (List ℕ) → List ℕ → List FeedFault
trip_faults routes bytes = table_faults file.Trips required row_of (checks routes) (records_of bytes)

abbrev pub trip_rows : List ℕ → List TripRow
trip_rows bytes = table_rows row_of (records_of bytes)

-- the identifiers of the trips, in file order: a trip's number is its position here
abbrev pub trip_ids : List TripRow → List (List ℕ)
trip_ids rows = map (λ r. r.id) rows

-- the services that are known, and then those that are first named here
abbrev pub services_after : List (List ℕ) → List TripRow → List (List ℕ)
services_after known rows = named known (map (λ r. r.service) rows)

-- the numbers of a trip's route and service
abbrev pub numbers_of : List (List ℕ) → List (List ℕ) → TripRow → TripNumbers
numbers_of routes services r = record { route = number_in routes r.route; service = number_in services r.service }

-- what the rows make, with the feed's routes, after services that were known
pub record AreTrips (routes known : List (List ℕ)) (trips : FeedTrips) (rows : List TripRow) : Type 0 where
  pub ids : trips.ids ≡ trip_ids rows
  pub services : trips.services ≡ services_after known rows
  pub numbers : trips.numbers.items ≡ map (numbers_of routes trips.services) rows
