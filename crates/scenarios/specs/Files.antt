-- The file of a scenario: a header, then one edit a record. First each record is checked, then the times of the trips
-- that all records together shift.
use Rattle.std.specs.Prelude.{◌+◌, ◌++◌, ℕ, List, [], ◌∷◌, codes, map, if◌then◌else◌}
use Rattle.std.specs.List.{filter_map}
use Rattle.table_records.specs.Reading.{lacks_column, table_rows}
use Rattle.table_records.specs.Table.{records_of}
use Rattle.gtfs_tables.specs.Feed.{FeedData}
use Rattle.scenarios.specs.EditRows.{EditRow, edit_of, row_faults, row_of}
use Rattle.scenarios.specs.ScenarioData.{ScenarioData}
use Rattle.scenarios.specs.ShiftedTimes.{range_faults}
use Rattle.scenarios.specs.declared.edits.Edit.{Edit}
use Rattle.scenarios.specs.declared.faults.ScenarioFault.{ScenarioFault}
use Rattle.scenarios.specs.declared.faults.ScenarioWhat.TheVariants as what

-- the columns that a header has to name
abbrev pub required : List (List ℕ)
required = codes "action" ∷ codes "id" ∷ []

-- the fault of a header that lacks one
abbrev pub missing_column : ScenarioFault
missing_column = record { at = 1; what = what.MissingColumn }

-- the faults of rows, the first of which is that of the record `at`
abbrev pub faults_from : FeedData → ℕ → List EditRow → List ScenarioFault
faults_from feed at [] = []
faults_from feed at (r ∷ rs) = map (λ w. record {
  at = at;
  what = w;
}) (row_faults feed at r) ++ faults_from feed (at + 1) rs

-- what rows do, in their order
abbrev pub edits_of : FeedData → List EditRow → List Edit
edits_of feed rows = filter_map (edit_of feed) rows

abbrev pub faults_of : FeedData → List EditRow → List ScenarioFault
faults_of feed rows = faults_from feed 2 rows ++ range_faults feed (edits_of feed rows) 2 (edits_of feed rows)

-- the rows of the file with these bytes
abbrev pub rows_in : List ℕ → List EditRow
rows_in bytes = table_rows row_of (records_of bytes)

-- all faults of the file, in order
abbrev pub scenario_faults : List ℕ → FeedData → List ScenarioFault
scenario_faults bytes feed =
    if lacks_column required (records_of bytes) then missing_column ∷ [] else faults_of feed (rows_in bytes)

-- the scenario of a name that the file says, where there are none
abbrev pub scenario_in : List ℕ → List ℕ → FeedData → ScenarioData
scenario_in name bytes feed = record { name = name; edits = edits_of feed (rows_in bytes) }
