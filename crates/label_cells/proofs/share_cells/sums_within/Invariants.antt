use Rattle.std.proofs.Common.{◌≡◌, ◌<◌, ℕ, length, slice_index}
use Rattle.label_cells.specs.ShareCells.{access_by_stop}
use Rattle.label_cells.proofs.share_cells.sums_within.Given as goal

abbrev pub invariant-loop-limit : goal.invariant-loop-limit
invariant-loop-limit v = record {
  count : length v.sums.items ≡ v.limit-index;
  each : (i : ℕ) → i < v.limit-index →
      slice_index v.sums.items i ≡ access_by_stop v.of_stops v.opportunities (slice_index v.limits i);
}
