use Rattle.std.proofs.Common.{◌≡◌, ◌+◌, ◌<◌, ℕ, [], length, slice_index_or}
use Rattle.label_cells.proofs.group_cells.push_unused.Given as goal

abbrev pub invariant-loop-rank : goal.invariant-loop-rank
invariant-loop-rank v = record {
  size : length v.cells.items ≡ length v.initial.cells.items + v._rank;
  kept : (i : ℕ) → i < length v.initial.cells.items →
      slice_index_or v.cells.items i [] ≡ slice_index_or v.initial.cells.items i [];
}
