use Rattle.std.proofs.Common.{◌≤◌, ◌+◌, ◌-◌, length}
use Rattle.std.specs.Io.KnownBytes.{Consumes}
use Rattle.table_records.specs.declared.limits.TheConstants.{MOST_BYTES}
use Rattle.command_line.proofs.files.read_all.Given as goal

abbrev pub invariant-loop-chunk : goal.invariant-loop-chunk
invariant-loop-chunk g l = record {
  taken : Consumes (g.R.Read.remaining l.fn.r) (g.R.Read.remaining l.r) l.bytes.items;
  bound : length l.bytes.items ≤ MOST_BYTES + 8192;
}

abbrev pub decreases-loop-chunk : goal.decreases-loop-chunk
decreases-loop-chunk g l = (MOST_BYTES + 1) - length l.bytes.items
