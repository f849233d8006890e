-- A file of a feed, read record by record: a header, and records that are each checked against those before.
-- GTFS Schedule reference, "File Requirements".
use Rattle.std.specs.Prelude.{ℕ, Bool, true, List, [], ◌∷◌, map, is_none, if◌then◌else◌}
use Rattle.std.specs.List.{list_any}
use Rattle.table_records.specs.Columns.{column}
use Rattle.table_records.specs.Faults.{faults_after}
use Rattle.table_records.specs.declared.fault.FeedFault.{FeedFault}
use Rattle.table_records.specs.declared.fault.FileName.{FileName}
use Rattle.table_records.specs.declared.fault.What.{What}
use Rattle.table_records.specs.declared.fault.What.TheVariants as what

-- the header lacks a required column
abbrev pub lacks : List (List ℕ) → List (List ℕ) → Bool
lacks required header = list_any (λ name. is_none (column header name)) required

-- a file without any record lacks every column
abbrev pub lacks_column : List (List ℕ) → List (List (List ℕ)) → Bool
lacks_column required [] = true
lacks_column required (header ∷ rest) = lacks required header

-- the rows of a file: its records after the header, read by the columns that the header names
abbrev pub table_rows : {R : Type 0} → (List (List ℕ) → List (List ℕ) → R) → List (List (List ℕ)) → List R
table_rows row [] = []
table_rows row (header ∷ rest) = map (row header) rest

-- the fault of a header that lacks a required column
abbrev pub missing_column : FileName → FeedFault
missing_column file = record { file = file; at = 1; what = what.MissingColumn }

-- all faults of a file, in order: its header's, or those of its rows
abbrev pub table_faults : {R : Type 0} → FileName → List (List ℕ) → (List (List ℕ) → List (List ℕ) → R) →
    (List R → R → List What)
    → List (List (List ℕ)) → List FeedFault
table_faults file required row checks records =
    if lacks_column required records then missing_column file ∷ [] else faults_after file checks []
    (table_rows row records)
