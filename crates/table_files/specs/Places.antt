-- What stops.txt says: the places of a feed, the stops and stations among them, and the stops of each station.
-- A stop's number is how many stops stand before it, a station's how many stations.
-- (GTFS Schedule reference, stops.txt: stop_id is unique; location_type 0 or empty is a stop or platform, 1 a station.)
use Rattle.std.specs.Prelude.{◌≡◌, ◌==◌, ◌≤◌, ◌+◌, ℕ, Bool, List, [], ◌∷◌, ◌++◌, All, Option, Some, codes, filter}
use Rattle.std.specs.Prelude.{is_none, length, map, nat_le, option_and_then, position, slice_get, if◌then◌else◌}
use Rattle.std.specs.List.{IsDistinct, list_any}
use Rattle.std.specs.Str.{bytes_eq}
use Rattle.timetable.specs.declared.limits.TheConstants.{MOST_STOPS}
use Rattle.table_records.specs.Columns.{column, field}
use Rattle.table_records.specs.Fields.{is_empty, number_of, trimmed, is_number}
use Rattle.table_records.specs.Faults.{when}
use Rattle.table_records.specs.Reading.{table_faults, table_rows}
use Rattle.table_records.specs.Table.{records_of}
use Rattle.table_records.specs.declared.fault.FeedFault.{FeedFault}
use Rattle.table_records.specs.declared.fault.FileName.TheVariants as file
use Rattle.table_records.specs.declared.fault.What.{What}
use Rattle.table_records.specs.declared.fault.What.TheVariants as what
use Rattle.timetable.specs.declared.trips.StopNo.{StopNo}
use Rattle.table_files.specs.declared.place.Place.{Place}
use Rattle.table_files.specs.declared.place.Place.TheVariants.{Stop, Station, Other}
use Rattle.table_files.specs.declared.places.PlaceColumns.{PlaceColumns}
use Rattle.table_files.specs.declared.places.PlaceList.{PlaceList}
use Rattle.table_files.specs.Children.{AreChildren, IsPlace, children_of}

-- the fields of a record that are read
pub record PlaceRecord : Type 0 where
  pub id : List ℕ
  pub kind : List ℕ
  pub parent : List ℕ

abbrev pub required : List (List ℕ)
required = codes "stop_id" ∷ []

abbrev pub columns_of : List (List ℕ) → PlaceColumns
columns_of header = record {
  id = column header (codes "stop_id");
  kind = column header (codes "location_type");
  parent = column header (codes "parent_station");
}

abbrev pub row_at : PlaceColumns → List (List ℕ) → PlaceRecord
row_at c fields = record {
  id = field fields c.id;
  kind = trimmed (field fields c.kind);
  parent = field fields c.parent;
}

abbrev pub row_of : List (List ℕ) → List (List ℕ) → PlaceRecord
row_of header = row_at (columns_of header)

-- a number, 0 where the field is empty
abbrev pub kind_of : List ℕ → Option ℕ
kind_of text = if is_empty text then Some 0 else number_of text

-- a stop, where vehicles stop
abbrev pub is_stop : PlaceRecord → Bool
is_stop r = is_number 0 (kind_of r.kind)

abbrev pub is_station : PlaceRecord → Bool
is_station r = is_number 1 (kind_of r.kind)

-- what is wrong with a record, in the order of the checks; its parent isn't checked
abbrev pub checks : List PlaceRecord → PlaceRecord → List What
checks before r =
    when (nat_le MOST_STOPS (length before)) what.TooMany
    ++ when (is_empty r.id) what.EmptyId
    ++ when (list_any (bytes_eq r.id) (map (λ b. b.id) before)) what.DuplicateId
    ++ when (is_none (kind_of r.kind)) what.BadNumber

-- all faults of the bytes of stops.txt
abbrev pub stop_faults : List ℕ → List FeedFault
stop_faults bytes = table_faults file.Stops required row_of checks (records_of bytes)

-- the records after the header
abbrev pub place_records : List ℕ → List PlaceRecord
place_records bytes = table_rows row_of (records_of bytes)

-- the identifiers of all records
abbrev pub names_of : List PlaceRecord → List (List ℕ)
names_of rows = map (λ r. r.id) rows

-- the identifiers of the stops among them, in the order of their numbers
abbrev pub stops_of : List PlaceRecord → List (List ℕ)
stops_of rows = map (λ r. r.id) (filter is_stop rows)

-- the identifiers of the stations
abbrev pub stations_of : List PlaceRecord → List (List ℕ)
stations_of rows = map (λ r. r.id) (filter is_station rows)

-- the parents of the stops, empty for a stop that names none
abbrev pub parents_of : List PlaceRecord → List (List ℕ)
parents_of rows = map (λ r. r.parent) (filter is_stop rows)

-- what a record after others is
abbrev pub place_at : List PlaceRecord → PlaceRecord → Place
place_at before r =
    if is_stop r then Stop (record { 0 = length (stops_of before) }) else if is_station r then Station
    (length (stations_of before)) else Other

abbrev pub places_after : List PlaceRecord → List PlaceRecord → List Place
places_after before [] = []
places_after before (r ∷ rows) = place_at before r ∷ places_after (before ++ r ∷ []) rows

-- what each record is
abbrev pub places_of : List PlaceRecord → List Place
places_of rows = places_after [] rows

-- the names of all places, the stops and the stations among them, what each place is, and the stops of each
-- station
pub record PlaceData : Type 0 where
  pub names : List (List ℕ)
  pub stops : List (List ℕ)
  pub stations : List (List ℕ)
  pub places : List Place
  pub children : List (List StopNo)

-- what the records state
abbrev pub places_in : List PlaceRecord → PlaceData
places_in rows = record {
  names = names_of rows;
  stops = stops_of rows;
  stations = stations_of rows;
  places = places_of rows;
  children = children_of (stations_of rows) (parents_of rows);
}

-- the place with an identifier
abbrev pub place_named : List (List ℕ) → List Place → List ℕ → Option Place
place_named names places id = option_and_then (slice_get places) (position (bytes_eq id) names)

-- no stop comes twice, and every number is that of a stop or a station
pub record ArePlaces (p : PlaceData) : Type 0 where
  pub few : length p.names ≤ MOST_STOPS
  pub as_many : length p.places ≡ length p.names
  pub stops_within : length p.stops ≤ length p.names
  pub stations_within : length p.stations ≤ length p.names
  pub distinct : IsDistinct bytes_eq p.stops
  pub in_range : All (IsPlace (length p.stops) (length p.stations)) p.places
  pub lists : length p.children ≡ length p.stations
  pub children : AreChildren (length p.stops) p.children

-- the list has what the records say
pub record IsPlaceList (l : PlaceList) (rows : List PlaceRecord) : Type 0 where
  pub names : l.names ≡ names_of rows
  pub stops : l.stops ≡ stops_of rows
  pub stations : l.stations ≡ stations_of rows
  pub places : l.places.items ≡ places_of rows
  pub parents : map (λ v. v.items) l.parents.items ≡ parents_of rows
  pub distinct : IsDistinct bytes_eq l.stops

-- the list has room for the record of a number
pub record HasRoom (l : PlaceList) (at : ℕ) : Type 0 where
  pub read : length l.names + 2 ≤ at
  pub few : length l.names ≤ MOST_STOPS
  pub stops : length l.stops ≤ length l.names
  pub stations : length l.stations ≤ length l.names

-- identifiers with one more, unless it is among them
abbrev pub with_id : List (List ℕ) → List ℕ → List (List ℕ)
with_id ids id = if list_any (bytes_eq id) ids then ids else ids ++ id ∷ []

-- a place of this kind stands after the others
pub record IsPlaced (kind : ℕ) (id parent : List ℕ) (old new : PlaceList) : Type 0 where
  pub names : new.names ≡ old.names
  pub stops : new.stops ≡ (if kind == 0 then with_id old.stops id else old.stops)
  pub stations : new.stations ≡ (if kind == 1 then with_id old.stations id else old.stations)
  pub places : new.places.items ≡ old.places.items
      ++ (if kind == 0 then Stop (record { 0 = length old.stops }) else if kind == 1 then Station (length old.stations)
      else Other) ∷ []
  pub parents : map (λ v. v.items) new.parents.items
      ≡ map (λ v. v.items) old.parents.items ++ (if kind == 0 then parent ∷ [] else [])
