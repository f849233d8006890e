use Rattle.std.proofs.Common.{◌≡◌, ◌<◌, ℕ, None, length, slice_index, slice_index_or}
use Rattle.rounds.specs.Table.{known_of}
use Rattle.label_cells.specs.Groups.{stop_at}
use Rattle.label_cells.proofs.share_cells.picked.Given as goal

abbrev pub invariant-loop-k : goal.invariant-loop-k
invariant-loop-k v = record {
  count : length v.cells.items ≡ v.k;
  each : (j : ℕ) → j < v.k →
      slice_index_or v.cells.items j None ≡ known_of (slice_index v.of_stops (stop_at v.destinations j));
}
