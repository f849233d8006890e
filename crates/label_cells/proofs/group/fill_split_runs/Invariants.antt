use Rattle.std.proofs.Common.{◌≡◌, ◌≤◌, ◌<◌, ℕ, length, slice_index}
use Rattle.label_cells.specs.Runs.{IsSplitRun}
use Rattle.label_cells.specs.Sums.{sum_to}
use Rattle.label_cells.specs.GroupLanes.{shortest_at, span_in}
use Rattle.label_cells.specs.SplitRuns.{whole_at, rest_at, reached_at}
use Rattle.label_cells.proofs.group.fill_split_runs.Given as goal

abbrev pub invariant-loop-run : goal.invariant-loop-run
invariant-loop-run v = record {
  size : length v.rows.items ≡ v.run-index;
  parts : (l i : ℕ) → l < 16 → i < v.run-index →
      IsSplitRun (slice_index v.low l) (shortest_at v.runs l i) (span_in v.runs i) (whole_at v.rows.items l i)
      (rest_at v.rows.items l i) (reached_at v.rows.items l i);
  wholes : (l i : ℕ) → l < 16 → i < v.run-index → whole_at v.rows.items l i ≤ 1092;
  spans : (l : ℕ) → l < 16 → sum_to (reached_at v.rows.items l) v.run-index ≤ sum_to (span_in v.runs) v.run-index;
}
