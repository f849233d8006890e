use Rattle.std.proofs.Common.{◌≤◌, ◌<◌, ℕ, slice_index}
use Rattle.label_cells.specs.GroupLanes.{shortest_at}
use Rattle.label_cells.proofs.group.low_of.Given as goal

abbrev pub invariant-loop-run : goal.invariant-loop-run
invariant-loop-run v = record {
  fits : (l : ℕ) → l < 16 → slice_index v.least l ≤ 65535;
  low : (l i : ℕ) → l < 16 → i < v.run-index → slice_index v.least l ≤ shortest_at v.runs l i;
}
