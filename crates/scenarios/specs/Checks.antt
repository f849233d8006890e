-- Which check of a scenario's file explains a fault: it names the fault, and the column whose field its rule refuses.
use Rattle.std.specs.Prelude.{◌≡◌, ◌⊎◌, ℕ, Bool, true, List, Some, All, is_none, slice_get}
use Rattle.table_records.specs.Columns.{column, field}
use Rattle.table_records.specs.Fields.{trimmed}
use Rattle.gtfs_tables.specs.Feed.{FeedData}
use Rattle.scenarios.specs.EditRows.{action_of, route_no, seconds_of, trip_no}
use Rattle.scenarios.specs.declared.checks.EditCheck.{EditCheck}
use Rattle.scenarios.specs.declared.checks.EditRule.{EditRule}
use Rattle.scenarios.specs.declared.checks.EditRule.TheVariants as rule
use Rattle.scenarios.specs.declared.faults.ScenarioWhat.{ScenarioWhat}
use Rattle.scenarios.specs.declared.faults.ScenarioWhat.TheVariants as what

-- whether a rule refuses a text; shifted times are those of all records
abbrev pub refuses : FeedData → EditRule → List ℕ → Bool
refuses feed rule.Action text = is_none (action_of text)
refuses feed rule.Route text = is_none (route_no feed text)
refuses feed rule.Trip text = is_none (trip_no feed text)
refuses feed rule.Shift text = is_none (seconds_of (trimmed text))
refuses feed rule.Shifted text = true

-- a check finds this fault of a record
pub record Finds (feed : FeedData) (c : EditCheck) (header fields : List (List ℕ)) (w : ScenarioWhat) : Type 0 where
  pub what : c.2 ≡ w
  pub refused : refuses feed c.1 (field fields (column header c.0.now)) ≡ true

-- one of the checks does, or the file has too many records
pub record IsExplained (feed : FeedData) (table : List EditCheck) (header fields : List (List ℕ))
    (w : ScenarioWhat) : Type 0 where
  pub by : (w ≡ what.TooMany) ⊎ ((c : EditCheck) × ((i : ℕ) × (slice_get table i ≡ Some c))
      × Finds feed c header fields w)

-- so of each of these faults of a record
pub record AreExplained (feed : FeedData) (table : List EditCheck) (header fields : List (List ℕ))
    (faults : List ScenarioWhat) : Type 0 where
  pub each : All (IsExplained feed table header fields) faults
