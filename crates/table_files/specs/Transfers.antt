-- What transfers.txt says: walks between stops and stations, and change times of stops.
-- A row counts where it says how long a walk takes, of any vehicle to any other; all other rows are unused.
-- A row of type 2 from a stop to itself states how long a change between two vehicles at the stop takes at least, and
-- one from a station to itself states that for each of its stops, in addition to the walks between these.
-- (GTFS Schedule reference, transfers.txt: types 0 to 2 are recommended, timed and minimum times of a change; type 3
-- forbids a change, 4 and 5 are changes without leaving the vehicle.)
use Rattle.std.specs.Prelude.{◌≡◌, ◌+◌, ◌-◌, ◌&&◌, ◌||◌, ◌==◌, ℕ, Bool, false, List, [], ◌∷◌, ◌++◌, Option, Some, None}
use Rattle.std.specs.Prelude.{codes, is_none, is_some, length, nat_le, not, position, slice_get, unwrap_or}
use Rattle.std.specs.Prelude.{if◌then◌else◌}
use Rattle.std.specs.List.{enumerate_from, filter_map}
use Rattle.std.specs.Str.{bytes_eq}
use Rattle.table_records.specs.Columns.{column, field}
use Rattle.table_records.specs.Fields.{is_empty, number_of, trimmed}
use Rattle.table_records.specs.Faults.{faults_after, when}
use Rattle.table_records.specs.Reading.{table_rows}
use Rattle.table_records.specs.Table.{records_of}
use Rattle.table_records.specs.declared.fault.FeedFault.{FeedFault}
use Rattle.table_records.specs.declared.fault.FileName.TheVariants as file
use Rattle.table_records.specs.declared.fault.What.{What}
use Rattle.table_records.specs.declared.fault.What.TheVariants as what
use Rattle.timetable.specs.declared.trips.StopNo.{StopNo}
use Rattle.table_files.specs.declared.place.Place.{Place}
use Rattle.table_files.specs.declared.place.Place.TheVariants.{Other}
use Rattle.table_files.specs.declared.transfers.Link.{Link}
use Rattle.table_files.specs.declared.transfers.TransferColumns.{TransferColumns}
use Rattle.table_files.specs.declared.transfers.Transfers.{Transfers}
use Rattle.table_files.specs.Children.{IsPlace, stops_at}
use Rattle.table_files.specs.Ends.{pairs_between}
use Rattle.table_files.specs.Places.{PlaceData, kind_of, place_named}

-- the fields of a record that are read
pub record TransferRow : Type 0 where
  pub from : List ℕ
  pub to : List ℕ
  pub kind : List ℕ
  pub time : List ℕ
  pub from_route : List ℕ
  pub to_route : List ℕ
  pub from_trip : List ℕ
  pub to_trip : List ℕ

abbrev pub columns_of : List (List ℕ) → TransferColumns
columns_of header = record {
  from = column header (codes "from_stop_id");
  to = column header (codes "to_stop_id");
  kind = column header (codes "transfer_type");
  time = column header (codes "min_transfer_time");
  from_route = column header (codes "from_route_id");
  to_route = column header (codes "to_route_id");
  from_trip = column header (codes "from_trip_id");
  to_trip = column header (codes "to_trip_id");
}

abbrev pub row_at : TransferColumns → List (List ℕ) → TransferRow
row_at c fields = record {
  from = field fields c.from;
  to = field fields c.to;
  kind = trimmed (field fields c.kind);
  time = trimmed (field fields c.time);
  from_route = field fields c.from_route;
  to_route = field fields c.to_route;
  from_trip = field fields c.from_trip;
  to_trip = field fields c.to_trip;
}

abbrev pub row_of : List (List ℕ) → List (List ℕ) → TransferRow
row_of header = row_at (columns_of header)

-- the row holds for every route and trip
abbrev pub is_general : TransferRow → Bool
is_general r = is_empty r.from_route && is_empty r.to_route && is_empty r.from_trip && is_empty r.to_trip

-- the row has two ends and a time
abbrev pub is_whole : TransferRow → Bool
is_whole r = not (is_empty r.time) && not (is_empty r.from) && not (is_empty r.to)

-- a type of transfer whose time is that of a walk
abbrev pub is_walk : Option ℕ → Bool
is_walk None = false
is_walk (Some kind) = nat_le kind 2

-- the row says how long a walk takes
abbrev pub is_used : TransferRow → Bool
is_used r = is_walk (kind_of r.kind) && is_general r && is_whole r

-- the type of a minimum time
abbrev pub is_minimum : Option ℕ → Bool
is_minimum None = false
is_minimum (Some kind) = kind == 2

-- the row states a change time: a minimum time from a place to itself
abbrev pub is_change : TransferRow → Bool
is_change r = is_minimum (kind_of r.kind) && bytes_eq r.from r.to

-- what is wrong with a row that is used, in the order of the checks, by the identifiers of all places
abbrev pub used_checks : List (List ℕ) → TransferRow → List What
used_checks names r =
    when (is_none (position (bytes_eq r.from) names)) what.UnknownStop
    ++ when (is_none (position (bytes_eq r.to) names)) what.UnknownStop
    ++ when (is_none (number_of r.time)) what.BadNumber

-- what is wrong with a record: of a row that isn't used only the type is looked at
abbrev pub checks : List (List ℕ) → List TransferRow → TransferRow → List What
checks names before r = when (is_none (kind_of r.kind))
    what.BadNumber ++ (if is_used r then used_checks names r else [])

-- the records after the header, which needs no column
abbrev pub transfer_rows : List ℕ → List TransferRow
transfer_rows bytes = table_rows row_of (records_of bytes)

-- all faults of the bytes of transfers.txt
abbrev pub transfer_faults : List (List ℕ) → List ℕ → List FeedFault
transfer_faults names bytes = faults_after file.Transfers (checks names) [] (transfer_rows bytes)

-- the place that an end names
abbrev pub end_of : List (List ℕ) → List Place → List ℕ → Place
end_of names places id = unwrap_or (place_named names places id) Other

-- the values of a record with its number
abbrev pub link_at : PlaceData → ℕ → TransferRow → Link
link_at places at r = record {
  origin = end_of places.names places.places r.from;
  target = end_of places.names places.places r.to;
  seconds = unwrap_or (number_of r.time) 0;
  changes = is_change r;
  at = at;
}

-- the footpaths that a link gives: from, to and seconds
abbrev pub pairs_of : List (List StopNo) → Link → List (StopNo × StopNo × ℕ)
pairs_of children link = pairs_between (stops_at link.origin children) (stops_at link.target children) link.seconds

-- there is a first pair
abbrev pub gives_pair : List (List StopNo) → Link → Bool
gives_pair children link = is_some (slice_get (pairs_of children link) 0)

-- the stops that a link states a change time for
abbrev pub changes_at : List (List StopNo) → Link → List StopNo
changes_at children link = if link.changes then stops_at link.origin children else []

-- there is a first one
abbrev pub gives_change : List (List StopNo) → Link → Bool
gives_change children link = is_some (slice_get (changes_at children link) 0)

-- the link gives a pair or a change time
abbrev pub gives_any : List (List StopNo) → Link → Bool
gives_any children link = gives_pair children link || gives_change children link

-- the link of a row that is used and gives a pair or a change time
abbrev pub link_of : PlaceData → ℕ → TransferRow → Option Link
link_of places at r = if is_used r && gives_any places.children (link_at places at r) then Some
    (link_at places at r) else None

-- the links of the rows, each with the number of its record
abbrev pub links_of : PlaceData → List TransferRow → List Link
links_of places rows = filter_map (λ x. link_of places x.0 x.1) (enumerate_from 2 rows)

-- how many rows give no link
abbrev pub unused_of : PlaceData → List TransferRow → ℕ
unused_of places rows = length rows - length (links_of places rows)

-- both ends of a link are places with these numbers of stops and stations
pub record IsLink (stops stations : ℕ) (link : Link) : Type 0 where
  pub origin : IsPlace stops stations link.origin
  pub target : IsPlace stops stations link.target

-- a row's link stands after the others, or the row is counted as unused
abbrev pub Takes : Option Link → Transfers → Transfers → Type 0
Takes (Some link) old new = (new.links.items ≡ old.links.items ++ link ∷ []) × (new.unused ≡ old.unused)
Takes None old new = (new.links.items ≡ old.links.items) × (new.unused ≡ old.unused + 1)

-- what the rows make
pub record AreTransfers (places : PlaceData) (t : Transfers) (rows : List TransferRow) : Type 0 where
  pub links : t.links.items ≡ links_of places rows
  pub unused : t.unused + length t.links.items ≡ length rows
