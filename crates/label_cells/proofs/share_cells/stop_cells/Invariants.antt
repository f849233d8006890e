use Rattle.std.proofs.Common.{◌≡◌, ◌<◌, ℕ, length, slice_index}
use Rattle.label_cells.specs.Groups.{cell_at}
use Rattle.label_cells.proofs.share_cells.stop_cells.Given as goal

abbrev pub invariant-loop-number : goal.invariant-loop-number
invariant-loop-number v = record {
  count : length v.of_stops.items ≡ v.number-index;
  each : (p : ℕ) → p < v.number-index →
      slice_index v.of_stops.items p ≡ cell_at v.ranks v.cells (slice_index v.numbers p) v.k;
}
