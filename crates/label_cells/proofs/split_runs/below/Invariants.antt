use Rattle.std.proofs.Common.{◌≡◌, ◌≤◌, ◌<◌, ℕ, slice_index}
use Rattle.label_cells.specs.SplitRuns.{whole_at, reached_at}
use Rattle.label_cells.specs.Runs.{under}
use Rattle.label_cells.specs.Sums.{sum_to}
use Rattle.label_cells.proofs.split_runs.below.Given as goal

abbrev pub invariant-loop-row : goal.invariant-loop-row
invariant-loop-row v = record {
  is : (l : ℕ) → l < 16 →
      slice_index v.count l ≡ under (whole_at v.rows l) (reached_at v.rows l) v.row-index (slice_index v.to l);
  few : (l : ℕ) → l < 16 → slice_index v.count l ≤ sum_to (reached_at v.rows l) v.row-index;
}
