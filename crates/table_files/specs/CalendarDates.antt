-- What `calendar_dates.txt` says: the dates that are added to a service, or removed from it.
-- GTFS Schedule reference, calendar_dates.txt.
use Rattle.std.specs.Prelude.{◌≡◌, ℕ, Bool, false, List, [], ◌∷◌, ◌++◌, codes, is_none, map, unwrap_or}
use Rattle.table_records.specs.Columns.{column, field}
use Rattle.table_records.specs.Fields.{is_empty, trimmed}
use Rattle.table_records.specs.Faults.{when}
use Rattle.table_records.specs.Table.{records_of}
use Rattle.table_records.specs.declared.fault.FeedFault.{FeedFault}
use Rattle.table_records.specs.declared.fault.FileName.TheVariants as file
use Rattle.table_records.specs.declared.fault.What.{What}
use Rattle.table_records.specs.declared.fault.What.TheVariants as what
use Rattle.table_files.specs.declared.calendar_dates.CalendarDates.{CalendarDates}
use Rattle.table_files.specs.declared.calendar_dates.ExceptionColumns.{ExceptionColumns}
use Rattle.table_files.specs.declared.calendar_dates.ExceptionRow.{ExceptionRow}
use Rattle.table_files.specs.Days.{adds_of, date_of, day_number}
use Rattle.table_records.specs.Reading.{table_faults, table_rows}
use Rattle.table_records.specs.Identifiers.{number_in}
use Rattle.table_files.specs.Services.{named}

-- what counts of a record
pub record DateRow : Type 0 where
  pub service : List ℕ
  pub date : List ℕ
  pub kind : List ℕ

abbrev pub required : List (List ℕ)
required = codes "service_id" ∷ codes "date" ∷ codes "exception_type" ∷ []

abbrev pub columns_of : List (List ℕ) → ExceptionColumns
columns_of header = record {
  service = column header (codes "service_id");
  date = column header (codes "date");
  kind = column header (codes "exception_type");
}

abbrev pub row_at : ExceptionColumns → List (List ℕ) → DateRow
row_at c fields = record {
  service = field fields c.service;
  date = trimmed (field fields c.date);
  kind = trimmed (field fields c.kind);
}

abbrev pub row_of : List (List ℕ) → List (List ℕ) → DateRow
row_of header = row_at (columns_of header)

-- the faults of a record, in the order of their checks; a record may repeat another
abbrev pub checks : List DateRow → DateRow → List What
checks before r =
    when (is_empty r.service) what.EmptyId
    ++ when (is_none (date_of r.date)) what.BadDate
    ++ when (is_none (adds_of r.kind)) what.BadNumber

-- all faults of the bytes of `calendar_dates.txt`
abbrev pub exception_faults : List ℕ → List FeedFault
exception_faults bytes = table_faults file.CalendarDates required row_of checks (records_of bytes)

abbrev pub date_rows : List ℕ → List DateRow
date_rows bytes = table_rows row_of (records_of bytes)

-- the services that are known, and then those that are first named here
abbrev pub services_after : List (List ℕ) → List DateRow → List (List ℕ)
services_after known rows = named known (map (λ r. r.service) rows)

-- a row's values: the service's number, the date's, and whether the date is added
pub record ExceptionData : Type 0 where
  pub service : ℕ
  pub date : ℕ
  pub adds : Bool

-- the values of a record
abbrev pub data_of : List (List ℕ) → DateRow → ExceptionData
data_of services r = record {
  service = number_in services r.service;
  date = unwrap_or (date_of r.date) 0;
  adds = unwrap_or (adds_of r.kind) false;
}

-- the values that a row keeps, its date as a number
abbrev pub shown : ExceptionRow → ExceptionData
shown row = record { service = row.service; date = day_number row.date; adds = row.adds }

-- what the rows make, after services that were known
pub record AreExceptions (known : List (List ℕ)) (dates : CalendarDates) (rows : List DateRow) : Type 0 where
  pub services : dates.services ≡ services_after known rows
  pub values : map shown dates.rows.items ≡ map (data_of dates.services) rows
