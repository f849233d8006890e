-- What `frequencies.txt` says: the trips that run at a headway.
-- GTFS Schedule reference, frequencies.txt.
use Rattle.std.specs.Prelude.{◌≡◌, ◌<◌, ◌+◌, ◌==◌, ℕ, List, [], ◌∷◌, ◌++◌, Option, Some, None, codes, filter, is_none}
use Rattle.std.specs.Prelude.{length, map, nat_le, option_and_then, position, slice_index_or, unwrap_or, if◌then◌else◌}
use Rattle.std.specs.Str.{bytes_eq}
use Rattle.std.specs.declared.vec.Vec.{Vec}
use Rattle.std.specs.declared.alloc.Global.{Global}
use Rattle.table_records.specs.Columns.{column, field}
use Rattle.table_records.specs.Fields.{is_empty, number_of, time_of, trimmed}
use Rattle.table_records.specs.Faults.{when}
use Rattle.table_records.specs.Table.{records_of}
use Rattle.table_records.specs.declared.fault.FeedFault.{FeedFault}
use Rattle.table_records.specs.declared.fault.FileName.TheVariants as file
use Rattle.table_records.specs.declared.fault.What.{What}
use Rattle.table_records.specs.declared.fault.What.TheVariants as what
use Rattle.table_files.specs.declared.frequencies.Departures.{Departures}
use Rattle.table_files.specs.declared.frequencies.FrequencyColumns.{FrequencyColumns}
use Rattle.table_records.specs.Reading.{table_faults, table_rows}
use Rattle.table_records.specs.Identifiers.{number_in}

-- what counts of a record
pub record FrequencyRow : Type 0 where
  pub trip : List ℕ
  pub start : List ℕ
  pub end : List ℕ
  pub headway : List ℕ

abbrev pub required : List (List ℕ)
required = codes "trip_id" ∷ codes "start_time" ∷ codes "end_time" ∷ codes "headway_secs" ∷ []

abbrev pub columns_of : List (List ℕ) → FrequencyColumns
columns_of header = record {
  trip = column header (codes "trip_id");
  start = column header (codes "start_time");
  end = column header (codes "end_time");
  headway = column header (codes "headway_secs");
}

abbrev pub row_at : FrequencyColumns → List (List ℕ) → FrequencyRow
row_at c fields = record {
  trip = field fields c.trip;
  start = trimmed (field fields c.start);
  end = trimmed (field fields c.end);
  headway = trimmed (field fields c.headway);
}

abbrev pub row_of : List (List ℕ) → List (List ℕ) → FrequencyRow
row_of header = row_at (columns_of header)

-- a headway is a number of seconds, at least 1
abbrev pub headway_of : List ℕ → Option ℕ
headway_of text = option_and_then (λ n. if nat_le 1 n then Some n else None) (number_of text)

-- the faults of a record, in the order of their checks, by the identifiers of the feed's trips
abbrev pub checks : List (List ℕ) → List FrequencyRow → FrequencyRow → List What
checks trips before r =
    when (is_empty r.trip) what.EmptyId
    ++ when (is_none (position (bytes_eq r.trip) trips)) what.UnknownTrip
    ++ when (is_none (time_of r.start)) what.BadTime
    ++ when (is_none (time_of r.end)) what.BadTime
    ++ when (is_none (headway_of r.headway)) what.BadNumber

-- all faults of the bytes of `frequencies.txt`
abbrev pub frequency_faults : List (List ℕ) → List ℕ → List FeedFault
frequency_faults trips bytes = table_faults file.Frequencies required row_of (checks trips) (records_of bytes)

abbrev pub frequency_rows : List ℕ → List FrequencyRow
frequency_rows bytes = table_rows row_of (records_of bytes)

-- the values of a record
abbrev pub departures_at : FrequencyRow → Departures
departures_at r = record {
  start = unwrap_or (time_of r.start) 0;
  end = unwrap_or (time_of r.end) 0;
  headway = unwrap_or (headway_of r.headway) 0;
}

-- the rows of the trip with a number, in file order
abbrev pub of_trip : List (List ℕ) → List FrequencyRow → ℕ → List Departures
of_trip trips rows t = map departures_at (filter (λ r. number_in trips r.trip == t) rows)

-- the rows of each trip, from a number on
abbrev pub departures_from : List (List ℕ) → List FrequencyRow → ℕ → List (List ℕ) → List (List Departures)
departures_from trips rows t [] = []
departures_from trips rows t (id ∷ ids) = of_trip trips rows t ∷ departures_from trips rows (t + 1) ids

-- the rows of each trip, in the order of the trips
abbrev pub departures_by_trip : List (List ℕ) → List FrequencyRow → List (List Departures)
departures_by_trip trips rows = departures_from trips rows 0 trips

-- each trip has its rows
abbrev pub AreDepartures : List (List ℕ) → List (Vec Departures Global) → List FrequencyRow → Type 0
AreDepartures trips items rows = (t : ℕ) (d : Vec Departures Global) → t < length items →
    (slice_index_or items t d).items ≡ of_trip trips rows t
