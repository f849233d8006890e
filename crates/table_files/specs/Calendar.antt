-- What `calendar.txt` says: on which weekdays of which dates a service runs.
-- GTFS Schedule reference, calendar.txt.
use Rattle.std.specs.Prelude.{◌≡◌, ℕ, Bool, List, [], ◌∷◌, ◌++◌, Option, Some, codes, is_none, map, option_and_then}
use Rattle.std.specs.Prelude.{option_map, unwrap_or}
use Rattle.std.specs.List.{list_any}
use Rattle.std.specs.Str.{bytes_eq}
use Rattle.table_records.specs.Columns.{column, field}
use Rattle.table_records.specs.Fields.{is_empty, trimmed}
use Rattle.table_records.specs.Faults.{when}
use Rattle.table_records.specs.Table.{records_of}
use Rattle.table_records.specs.declared.fault.FeedFault.{FeedFault}
use Rattle.table_records.specs.declared.fault.FileName.TheVariants as file
use Rattle.table_records.specs.declared.fault.What.{What}
use Rattle.table_records.specs.declared.fault.What.TheVariants as what
use Rattle.table_files.specs.declared.calendar.Calendar.{Calendar}
use Rattle.table_files.specs.declared.calendar.CalendarColumns.{CalendarColumns}
use Rattle.table_files.specs.declared.calendar.CalendarRow.{CalendarRow}
use Rattle.table_files.specs.Days.{date_of, day_number, flag_of}
use Rattle.table_records.specs.Reading.{table_faults, table_rows}
use Rattle.table_records.specs.Identifiers.{number_in}

-- what counts of a record; the days from Monday on
pub record ServiceRow : Type 0 where
  pub service : List ℕ
  pub days : List (List ℕ)
  pub first : List ℕ
  pub last : List ℕ

abbrev pub required : List (List ℕ)
required =
    codes "service_id" ∷ codes "monday" ∷ codes "tuesday" ∷ codes "wednesday" ∷ codes "thursday" ∷ codes
    "friday" ∷ codes "saturday" ∷ codes "sunday"
    ∷ codes "start_date" ∷ codes "end_date" ∷ []

abbrev pub columns_of : List (List ℕ) → CalendarColumns
columns_of header = record {
  service = column header (codes "service_id");
  monday = column header (codes "monday");
  tuesday = column header (codes "tuesday");
  wednesday = column header (codes "wednesday");
  thursday = column header (codes "thursday");
  friday = column header (codes "friday");
  saturday = column header (codes "saturday");
  sunday = column header (codes "sunday");
  first = column header (codes "start_date");
  last = column header (codes "end_date");
}

abbrev pub day_columns : CalendarColumns → List (Option ℕ)
day_columns c = c.monday ∷ c.tuesday ∷ c.wednesday ∷ c.thursday ∷ c.friday ∷ c.saturday ∷ c.sunday ∷ []

abbrev pub row_at : CalendarColumns → List (List ℕ) → ServiceRow
row_at c fields = record {
  service = field fields c.service;
  days = map (λ day. trimmed (field fields day)) (day_columns c);
  first = trimmed (field fields c.first);
  last = trimmed (field fields c.last);
}

abbrev pub row_of : List (List ℕ) → List (List ℕ) → ServiceRow
row_of header = row_at (columns_of header)

-- the weekdays on which a service runs, where each field is a flag
abbrev pub days_of : List (List ℕ) → Option (List Bool)
days_of [] = Some []
days_of (text ∷ rest) = option_and_then (λ day. option_map (λ days. day ∷ days) (days_of rest)) (flag_of text)

-- the faults of a record, in the order of their checks
abbrev pub checks : List ServiceRow → ServiceRow → List What
checks before r =
    when (is_empty r.service) what.EmptyId
    ++ when (list_any (bytes_eq r.service) (map (λ b. b.service) before)) what.DuplicateId
    ++ when (is_none (days_of r.days)) what.BadNumber
    ++ when (is_none (date_of r.first)) what.BadDate
    ++ when (is_none (date_of r.last)) what.BadDate

-- all faults of the bytes of `calendar.txt`
abbrev pub calendar_faults : List ℕ → List FeedFault
calendar_faults bytes = table_faults file.Calendar required row_of checks (records_of bytes)

abbrev pub service_rows : List ℕ → List ServiceRow
service_rows bytes = table_rows row_of (records_of bytes)

-- the services that are named, in file order
abbrev pub services_of : List ServiceRow → List (List ℕ)
services_of rows = map (λ r. r.service) rows

-- a row's values: the service's number, the weekdays from Monday on, the first and the last date
pub record CalendarData : Type 0 where
  pub service : ℕ
  pub days : List Bool
  pub first : ℕ
  pub last : ℕ

-- the values of a record
abbrev pub data_of : List (List ℕ) → ServiceRow → CalendarData
data_of services r = record {
  service = number_in services r.service;
  days = unwrap_or (days_of r.days) [];
  first = unwrap_or (date_of r.first) 0;
  last = unwrap_or (date_of r.last) 0;
}

-- the values that a row keeps, its dates as numbers
abbrev pub shown : CalendarRow → CalendarData
shown row = record { service = row.service; days = row.days; first = day_number row.first; last = day_number row.last }

-- what the rows make
pub record IsCalendar (calendar : Calendar) (rows : List ServiceRow) : Type 0 where
  pub services : calendar.services ≡ services_of rows
  pub values : map shown calendar.rows.items ≡ map (data_of calendar.services) rows
