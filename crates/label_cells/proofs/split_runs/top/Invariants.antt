use Rattle.std.proofs.Common.{◌≢◌, ◌≤◌, ◌<◌, ◌+◌, ℕ, slice_index}
use Rattle.label_cells.specs.SplitRuns.{whole_at, reached_at}
use Rattle.label_cells.proofs.split_runs.top.Given as goal

abbrev pub invariant-loop-row : goal.invariant-loop-row
invariant-loop-row v = record {
  few : (l : ℕ) → l < 16 → slice_index v.top l ≤ 2532;
  top : (l i : ℕ) → l < 16 → i < v.row-index → reached_at v.rows l i ≢ 0 →
      whole_at v.rows l i + reached_at v.rows l i ≤ slice_index v.top l;
}
