use Rattle.std.proofs.Common.{◌≡◌, ◌≢◌, ◌<◌, ◌+◌, ◌*◌, ◌/◌, ◌%◌, ℕ, false, length, slice_index, slice_index_or}
use Rattle.label_cells.specs.Runs.{GoesOn}
use Rattle.label_cells.specs.GroupLanes.{lane_of}
use Rattle.label_cells.proofs.ends.fill_ends.Given as goal

abbrev pub invariant-loop-j : goal.invariant-loop-j
invariant-loop-j v = record {
  size : length v.ends.items ≡ v.j;
  eight : v.j % 8 ≢ 0 → (k l : ℕ) → k < 8 → l < 16 → slice_index v.same k ≢ 0 →
      slice_index v.window.found.labels.now (v.from + l * v.window.found.width + (v.j / 8) * 8 + k)
      ≡ slice_index v.window.found.labels.now (v.from + l * v.window.found.width + (v.j / 8) * 8 + k + 1);
  others : (l i : ℕ) → l < 16 → i < v.j → slice_index_or v.ends.items i false ≡ false →
      GoesOn (lane_of v.window.found.labels.now v.from v.window.found.width (length v.window.found.bases.now) l)
      v.window.found.bases.now i;
}
