-- Columns, and the fields of a record.
-- "A field is named by the first header of that name; a missing field is empty."
-- (GTFS reference, file requirements: the first line of a file names its fields, case-sensitive, in any order.)
use Rattle.std.specs.Prelude.{ℕ, List, [], Option, Some, None, position, slice_get, unwrap_or}
use Rattle.std.specs.Str.{bytes_eq}
use Rattle.table_records.specs.Fields.{trimmed}

-- the first column whose header is this name, the spaces around the header left out
abbrev pub column : List (List ℕ) → List ℕ → Option ℕ
column header name = position (λ text. bytes_eq (trimmed text) name) header

-- a record's field in a column, empty where the table lacks the column or the record ends before it
abbrev pub field : List (List ℕ) → Option ℕ → List ℕ
field row None = []
field row (Some i) = unwrap_or (slice_get row i) []
