use Rattle.std.proofs.Common.{◌≡◌, ◌<◌, ℕ, slice_index}
use Rattle.label_cells.specs.SplitRuns.{reached_at}
use Rattle.label_cells.specs.Sums.{sum_to}
use Rattle.label_cells.proofs.split_runs.known.Given as goal

abbrev pub invariant-loop-row : goal.invariant-loop-row
invariant-loop-row v = (l : ℕ) → l < 16 → slice_index v.known l ≡ sum_to (reached_at v.rows l) v.row-index
