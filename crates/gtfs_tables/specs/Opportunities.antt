-- What the opportunities file says: how many opportunities are at each stop. Without a file it is one.
use Rattle.std.specs.Prelude.{ℕ, List, [], ◌∷◌, true, Option, Some, None, codes, length, map, replicate}
use Rattle.table_records.specs.declared.fault.FeedFault.{FeedFault}
use Rattle.table_records.specs.declared.fault.FileName.TheVariants as file
use Rattle.table_records.specs.declared.fault.What.{What}
use Rattle.gtfs_tables.specs.Feed.{FeedData}
use Rattle.gtfs_tables.specs.Files.{Bytes, optional}
use Rattle.gtfs_tables.specs.NamedStops as named
pub use Rattle.gtfs_tables.specs.NamedStops.{NamedRow, row_of, stops_named}

abbrev pub required : List (List ℕ)
required = codes "stop_id" ∷ codes "opportunities" ∷ []

-- the faults of a record, in the order of their checks, by the identifiers of the feed's stops
abbrev pub checks : List (List ℕ) → List NamedRow → NamedRow → List What
checks = named.checks true

-- the faults of the bytes of the file
abbrev pub faults_in : Bytes → List (List ℕ) → List FeedFault
faults_in = named.faults_in file.Opportunities required true

-- all faults of the opportunities file, which may be absent
abbrev pub opportunities_faults : Option Bytes → FeedData → List FeedFault
opportunities_faults bytes feed = optional (λ b. faults_in b feed.stops) bytes

-- the opportunities at each stop; without a file one at each
abbrev pub opportunities_of : Option Bytes → FeedData → List ℕ
opportunities_of None feed = replicate (length feed.stops) 1
opportunities_of (Some bytes) feed = map (named.at_stop (named.named_rows bytes)) feed.stops
