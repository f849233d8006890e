-- A file of an analysis whose records name stops, each once: the origins, the opportunities. Where records are counted,
-- each states a number.
use Rattle.std.specs.Prelude.{◌≡◌, ◌<◌, ◌==◌, ℕ, Bool, true, false, List, [], ◌++◌, codes, find, length, map, All}
use Rattle.std.specs.Prelude.{is_none, option_map, position, slice_index_or, unwrap_or}
use Rattle.std.specs.List.{list_any}
use Rattle.std.specs.Str.{bytes_eq}
use Rattle.table_records.specs.Columns.{column, field}
use Rattle.table_records.specs.Fields.{is_empty, number_of, trimmed}
use Rattle.table_records.specs.Faults.{faults_after, when}
use Rattle.table_records.specs.Reading.{table_faults, table_rows}
use Rattle.table_records.specs.Table.{records_of}
use Rattle.table_records.specs.declared.fault.FeedFault.{FeedFault}
use Rattle.table_records.specs.declared.fault.FileName.{FileName}
use Rattle.table_records.specs.declared.fault.What.{What}
use Rattle.table_records.specs.declared.fault.What.TheVariants as what
use Rattle.table_records.specs.Identifiers.{number_in}
use Rattle.timetable.specs.declared.trips.StopNo.{StopNo}
use Rattle.gtfs_tables.specs.declared.named_stops.NamedColumns.{NamedColumns}
use Rattle.gtfs_tables.specs.declared.named_stops.NamedList.{NamedList}

-- what counts of a record
pub record NamedRow : Type 0 where
  pub stop : List ℕ
  pub count : List ℕ

abbrev pub columns_of : List (List ℕ) → NamedColumns
columns_of header = record { stop = column header (codes "stop_id"); count = column header (codes "opportunities") }

abbrev pub row_at : NamedColumns → List (List ℕ) → NamedRow
row_at c fields = record { stop = field fields c.stop; count = trimmed (field fields c.count) }

abbrev pub row_of : List (List ℕ) → List (List ℕ) → NamedRow
row_of header = row_at (columns_of header)

abbrev pub named_rows : List ℕ → List NamedRow
named_rows bytes = table_rows row_of (records_of bytes)

abbrev pub stops_named : List NamedRow → List (List ℕ)
stops_named rows = map (λ r. r.stop) rows

-- what is wrong with a record's stop, in the order of the checks: no identifier, no stop's, or one that was named
-- before
abbrev pub stop_checks : List (List ℕ) → List (List ℕ) → List ℕ → List What
stop_checks stops before id =
    when (is_empty id) what.EmptyId
    ++ when (is_none (position (bytes_eq id) stops)) what.UnknownStop
    ++ when (list_any (bytes_eq id) before) what.DuplicateId

-- what is wrong with a record, by the identifiers of the feed's stops
abbrev pub checks : Bool → List (List ℕ) → List NamedRow → NamedRow → List What
checks false stops before r = stop_checks stops (stops_named before) r.stop
checks true stops before r = stop_checks stops (stops_named before) r.stop ++ when (is_none (number_of r.count))
    what.BadNumber

-- the faults of records
abbrev pub faults_of : FileName → Bool → List (List ℕ) → List NamedRow → List FeedFault
faults_of file is_counted stops rows = faults_after file (checks is_counted stops) [] rows

-- the faults of the bytes of the file
abbrev pub faults_in : FileName → List (List ℕ) → Bool → List ℕ → List (List ℕ) → List FeedFault
faults_in file required is_counted bytes stops =
    table_faults file required row_of (checks is_counted stops) (records_of bytes)

-- the stop of a record
abbrev pub named_stop : List (List ℕ) → NamedRow → StopNo
named_stop stops r = record { 0 = number_in stops r.stop }

abbrev pub count_of : NamedRow → ℕ
count_of r = unwrap_or (number_of r.count) 0

-- the count at a stop: what the record that names it says, none where no record does
abbrev pub at_stop : List NamedRow → List ℕ → ℕ
at_stop rows id = unwrap_or (option_map count_of (find (λ r. bytes_eq id r.stop) rows)) 0

-- each stop has a mark that says whether one of the identifiers is its own, and each identifier is a stop's
pub record AreMarked (stops : List (List ℕ)) (marks : List Bool) (ids : List (List ℕ)) : Type 0 where
  pub size : length marks ≡ length stops
  pub known : All (λ id. is_none (position (bytes_eq id) stops) ≡ false) ids
  pub each : (n : ℕ) → n < length stops → slice_index_or marks n false ≡ list_any (λ id. number_in stops id == n) ids

-- what the rows make
pub record AreNamed (stops : List (List ℕ)) (table : NamedList) (rows : List NamedRow) : Type 0 where
  pub marked : AreMarked stops table.named.marks.items (stops_named rows)
  pub stops_are : table.stops.items ≡ map (named_stop stops) rows
  pub counts_are : table.counts.items ≡ map (at_stop rows) stops
