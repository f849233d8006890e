use Rattle.std.proofs.Common.{◌≡◌, ◌<◌, ◌-◌, ℕ, [], false, length, get_or}
use Rattle.std.specs.Str.{bytes_eq}
use Rattle.csv.specs.Records.{fields_of}
use Rattle.table_records.specs.Fields.{trimmed}
use Rattle.table_records.proofs.columns.column.Given as goal

abbrev pub invariant-loop-text : goal.invariant-loop-text
invariant-loop-text l = (k : ℕ) → k < l.i → bytes_eq (trimmed (get_or (fields_of l.header) k [])) l.name ≡ false

abbrev pub decreases-loop-text : goal.decreases-loop-text
decreases-loop-text l = length (fields_of l.header) - l.i
