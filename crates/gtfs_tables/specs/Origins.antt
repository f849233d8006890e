-- What the origins file says: the stops at which journeys begin. Without a file they are all stops. The destinations
-- file says in the same way which stops have a column of cells.
use Rattle.std.specs.Prelude.{ℕ, List, [], ◌∷◌, false, Option, Some, None, codes, length, map}
use Rattle.std.specs.List.{range_with_len}
use Rattle.table_records.specs.declared.fault.FeedFault.{FeedFault}
use Rattle.table_records.specs.declared.fault.FileName.{FileName}
use Rattle.table_records.specs.declared.fault.FileName.TheVariants as file
use Rattle.table_records.specs.declared.fault.What.{What}
use Rattle.timetable.specs.declared.trips.StopNo.{StopNo}
use Rattle.gtfs_tables.specs.Feed.{FeedData}
use Rattle.gtfs_tables.specs.Files.{Bytes, optional}
use Rattle.gtfs_tables.specs.NamedStops as named
pub use Rattle.gtfs_tables.specs.NamedStops.{NamedRow, row_of, stops_named}

abbrev pub required : List (List ℕ)
required = codes "stop_id" ∷ []

-- the faults of a record, by the identifiers of the feed's stops
abbrev pub checks : List (List ℕ) → List NamedRow → NamedRow → List What
checks = named.checks false

-- all faults of such a file of this name, which may be absent
abbrev pub stops_faults : FileName → Option Bytes → FeedData → List FeedFault
stops_faults name bytes feed = optional (λ b. named.faults_in name required false b feed.stops) bytes

-- all faults of the origins file, and of the destinations file
abbrev pub origins_faults : Option Bytes → FeedData → List FeedFault
origins_faults = stops_faults file.Origins

abbrev pub destinations_faults : Option Bytes → FeedData → List FeedFault
destinations_faults = stops_faults file.Destinations

-- the origins, in file order; without a file all stops, in order
abbrev pub origins_of : Option Bytes → FeedData → List StopNo
origins_of None feed = map (λ n. record { 0 = n }) (range_with_len 0 (length feed.stops))
origins_of (Some bytes) feed = map (named.named_stop feed.stops) (named.named_rows bytes)

-- the destinations, likewise
abbrev pub destinations_of : Option Bytes → FeedData → List StopNo
destinations_of = origins_of
