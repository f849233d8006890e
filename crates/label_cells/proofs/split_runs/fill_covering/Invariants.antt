use Rattle.std.proofs.Common.{◌≡◌, ◌≤◌, ◌<◌, ℕ, [], ltb, slice_index, slice_index_or}
use Rattle.label_cells.specs.Runs.{covers}
use Rattle.label_cells.specs.SplitRuns.{whole_at, rest_at, reached_at}
use Rattle.label_cells.proofs.split_runs.fill_covering.Given as goal

abbrev pub invariant-loop-i : goal.invariant-loop-i
invariant-loop-i v = record {
  each : (i l seconds : ℕ) → i < v.i → l < 16 → seconds ≤ 64 →
      ltb (slice_index (slice_index_or v.covering i []) l) seconds
      ≡ covers (slice_index v.at l) seconds (whole_at v.rows l i) (rest_at v.rows l i) (reached_at v.rows l i);
}
