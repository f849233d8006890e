use Rattle.std.proofs.Common.{◌≡◌, ◌-◌, ◌<◌, ◌≤◌, Some, drop, slice_get}
use Rattle.csv.specs.Records.{fields_of}
use Rattle.table_records.specs.Table.{records_of}
use Rattle.reports.proofs.records.record_at.Given as goal

abbrev pub invariant-loop : goal.invariant-loop
invariant-loop l = record {
  some : 1 ≤ l.counter;
  left : l.rows ≡ drop l.counter (records_of l.bytes);
  row : 1 < l.counter → slice_get (records_of l.bytes) (l.counter - 1) ≡ Some (fields_of l.row);
}
