-- The direct footpaths of a feed: those of the walks in transfers.txt, and then those of a file of footpaths, row by
-- row.
-- Each end of a walk is a stop, or a station that stands for all its stops, or another place that stands for none.
-- (After the GTFS Schedule reference, transfers.txt: from_stop_id and to_stop_id may name stations.)
use Rattle.std.specs.Prelude.{◌++◌, ℕ, Bool, List, [], ◌∷◌, Option, codes, is_none, length, nat_lt, position, unwrap_or}
use Rattle.std.specs.Prelude.{if◌then◌else◌}
use Rattle.std.specs.List.{flat_map}
use Rattle.std.specs.Str.{bytes_eq}
use Rattle.table_records.specs.Columns.{column, field}
use Rattle.table_records.specs.Faults.{when}
use Rattle.table_records.specs.Fields.{is_empty, number_of, trimmed}
use Rattle.table_records.specs.Reading.{table_faults, table_rows}
use Rattle.table_records.specs.Table.{records_of}
use Rattle.table_records.specs.declared.fault.FeedFault.{FeedFault}
use Rattle.table_records.specs.declared.fault.FileName.TheVariants as file
use Rattle.table_records.specs.declared.fault.What.{What}
use Rattle.table_records.specs.declared.fault.What.TheVariants as what
use Rattle.table_files.specs.Children.{stops_at}
use Rattle.table_files.specs.Ends.{pairs_between}
use Rattle.table_files.specs.Transfers.{end_of, pairs_of}
use Rattle.table_files.specs.declared.transfers.Link.{Link}
use Rattle.timetable.specs.declared.trips.StopNo.{StopNo}
use Rattle.timetable.specs.declared.limits.TheConstants.{MOST_FOOTPATHS}
use Rattle.gtfs_tables.specs.Feed.{FeedData}
use Rattle.gtfs_tables.specs.Files.{Bytes, optional, rows_in}
use Rattle.footpaths.specs.declared.walks.Walk.{Walk}
use Rattle.footpaths.specs.declared.walks.WalkColumns.{WalkColumns}
use Rattle.footpaths.specs.Changes.{change_times}
use Rattle.footpaths.specs.Direct.{DirectLists, Footpath}

-- footpaths are more than the limit
abbrev pub are_too_many : List Footpath → Bool
are_too_many paths = nat_lt MOST_FOOTPATHS (length paths)

-- the footpaths of the walks in transfers.txt
abbrev pub pairs_of_links : List (List StopNo) → List Link → List Footpath
pairs_of_links children links = flat_map (pairs_of children) links

-- the faults of the walks that follow others: each with which the footpaths are too many, at its record
abbrev pub link_faults : List (List StopNo) → List Link → List Link → List FeedFault
link_faults children before [] = []
link_faults children before (link ∷ links) =
    (if are_too_many (pairs_of_links children (before ++ link ∷ [])) then record {
      file = file.Transfers;
      at = link.at;
      what = what.TooMany;
    } ∷ [] else [])
    ++ link_faults children (before ++ link ∷ []) links

-- the fields of a record of the file of footpaths that are read
pub record WalkRow : Type 0 where
  pub from : List ℕ
  pub to : List ℕ
  pub seconds : List ℕ

abbrev pub required : List (List ℕ)
required = codes "from_stop_id" ∷ codes "to_stop_id" ∷ codes "seconds" ∷ []

abbrev pub columns_of : List (List ℕ) → WalkColumns
columns_of header = record {
  from = column header (codes "from_stop_id");
  to = column header (codes "to_stop_id");
  seconds = column header (codes "seconds");
}

abbrev pub row_at : WalkColumns → List (List ℕ) → WalkRow
row_at c fields = record {
  from = field fields c.from;
  to = field fields c.to;
  seconds = trimmed (field fields c.seconds);
}

abbrev pub row_of : List (List ℕ) → List (List ℕ) → WalkRow
row_of header = row_at (columns_of header)

-- the records after the header
abbrev pub walk_rows : Bytes → List WalkRow
walk_rows bytes = table_rows row_of (records_of bytes)

-- the walk that a record states
abbrev pub walk_of : FeedData → WalkRow → Walk
walk_of feed r = record {
  origin = end_of feed.names feed.places r.from;
  target = end_of feed.names feed.places r.to;
  seconds = unwrap_or (number_of r.seconds) 0;
}

-- the footpaths of a walk: from-stops in the outer order
abbrev pub pairs_of_walk : List (List StopNo) → Walk → List Footpath
pairs_of_walk children walk = pairs_between (stops_at walk.origin children) (stops_at walk.target children) walk.seconds

-- the footpaths of the walks in transfers.txt, and behind them those of records
abbrev pub pairs_with : FeedData → List WalkRow → List Footpath
pairs_with feed rows = pairs_of_links feed.children feed.links ++ flat_map
    (λ r. pairs_of_walk feed.children (walk_of feed r)) rows

-- ... between the stops of the feed, with their change times
abbrev pub lists_with : FeedData → List WalkRow → DirectLists
lists_with feed rows = record { stops = length feed.stops; pairs = pairs_with feed rows; changes = change_times feed }

-- what is wrong with a record by itself, in the order of the checks: ends without an identifier, or with that of no
-- record of stops.txt, and seconds that are no number
abbrev pub row_checks : List (List ℕ) → WalkRow → List What
row_checks names r =
    when (is_empty r.from) what.EmptyId
    ++ when (is_empty r.to) what.EmptyId
    ++ when (is_none (position (bytes_eq r.from) names)) what.UnknownStop
    ++ when (is_none (position (bytes_eq r.to) names)) what.UnknownStop
    ++ when (is_none (number_of r.seconds)) what.BadNumber

-- what is wrong with a record after others
abbrev pub checks : FeedData → List WalkRow → WalkRow → List What
checks feed before r = row_checks feed.names r ++ when (are_too_many (pairs_with feed (before ++ r ∷ []))) what.TooMany

-- all faults of the bytes of the file of footpaths
abbrev pub walk_faults : FeedData → Bytes → List FeedFault
walk_faults feed bytes = table_faults file.Footpaths required row_of (checks feed) (records_of bytes)

-- all faults of the direct footpaths, those of transfers.txt first; the file of footpaths may be absent
abbrev pub direct_faults : FeedData → Option Bytes → List FeedFault
direct_faults feed own = link_faults feed.children [] feed.links ++ optional (walk_faults feed) own

-- the direct footpaths
abbrev pub direct_of : FeedData → Option Bytes → DirectLists
direct_of feed own = lists_with feed (rows_in walk_rows own)
