-- Which check of a file explains a fault: it names the fault, and the column whose field its rule refuses.
-- "Every fault of a record but that there are too many is one of a field, or of the record's trip as a whole."
use Rattle.std.specs.Prelude.{◌≡◌, ◌⊎◌, ◌&&◌, ◌==◌, ℕ, Bool, true, List, Option, Some, None, All, is_none, not}
use Rattle.std.specs.Prelude.{slice_get}
use Rattle.table_records.specs.Columns.{column, field}
use Rattle.table_records.specs.Fields.{day_of, is_empty, number_of, time_of, trimmed}
use Rattle.table_records.specs.declared.checks.Check.{Check}
use Rattle.table_records.specs.declared.checks.Rule.{Rule}
use Rattle.table_records.specs.declared.checks.Rule.TheVariants as rule
use Rattle.table_records.specs.declared.fault.What.{What}
use Rattle.table_records.specs.declared.fault.What.TheVariants as what

-- a number that is neither of two
abbrev pub is_neither : ℕ → ℕ → Option ℕ → Bool
is_neither a b None = true
is_neither a b (Some n) = not (n == a) && not (n == b)

-- a headway that isn't one
abbrev pub is_no_headway : Option ℕ → Bool
is_no_headway None = true
is_no_headway (Some n) = n == 0

-- whether a rule may refuse a text
abbrev pub refuses : Rule → List ℕ → Bool
refuses rule.Filled text = is_empty text
refuses rule.Number text = is_none (number_of (trimmed text))
refuses rule.OpenNumber text = not (is_empty (trimmed text)) && is_none (number_of (trimmed text))
refuses rule.Flag text = is_neither 0 1 (number_of (trimmed text))
refuses rule.Added text = is_neither 2 1 (number_of (trimmed text))
refuses rule.Headway text = is_no_headway (number_of (trimmed text))
refuses rule.Time text = is_none (time_of (trimmed text))
refuses rule.OpenTime text = not (is_empty (trimmed text)) && is_none (time_of (trimmed text))
refuses rule.Date text = is_none (day_of (trimmed text))
refuses rule.Once text = true
refuses rule.OnceInTrip text = true
refuses rule.Stop text = true
refuses rule.Place text = true
refuses rule.Route text = true
refuses rule.Trip text = true
refuses rule.Timed text = true

-- a check finds this fault of a record
pub record Finds (c : Check) (header fields : List (List ℕ)) (w : What) : Type 0 where
  pub what : c.2 ≡ w
  pub refused : refuses c.1 (field fields (column header c.0.now)) ≡ true

-- one of the checks does, or the file has too many records
pub record IsExplained (table : List Check) (header fields : List (List ℕ)) (w : What) : Type 0 where
  pub by : (w ≡ what.TooMany) ⊎ ((c : Check) × ((i : ℕ) × (slice_get table i ≡ Some c)) × Finds c header fields w)

-- so of each of these faults of a record
pub record AreExplained (table : List Check) (header fields : List (List ℕ)) (faults : List What) : Type 0 where
  pub each : All (IsExplained table header fields) faults

-- so of each fault of each record of a file, as its reader's definition states them
abbrev pub Explains : {R : Type 0} → List Check → (List (List ℕ) → List (List ℕ) → R) → (List R → R → List What)
    → Type 0
Explains {R = R} table row_of checks =
    (before : List R) (header fields : List (List ℕ)) →
    AreExplained table header fields (checks before (row_of header fields))
