use Rattle.std.proofs.Common.{◌≤◌, length}
use Rattle.std.specs.Io.KnownBytes.{Consumes}
use Rattle.console.proofs.machine.first_bytes.Given as goal

-- each read gave a byte at least
abbrev pub invariant-loop : goal.invariant-loop
invariant-loop g l = record {
  consumed : Consumes (g.R.Read.remaining l.fn.r) (g.R.Read.remaining l.r) l.bytes.items;
  some : l.counter ≤ length l.bytes.items;
}
