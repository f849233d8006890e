use Rattle.std.proofs.Common.{◌≡◌, ◌≤◌, drop, length}
use Rattle.table_records.specs.Table.{records_of}
use Rattle.reports.proofs.records.record_count.Given as goal

abbrev pub invariant-loop-count : goal.invariant-loop-count
invariant-loop-count l = record {
  few : l.count ≤ length (records_of l.bytes);
  left : l.rows ≡ drop l.count (records_of l.bytes);
}
