use Rattle.std.proofs.Common.{◌≤◌, ◌<◌, ℕ, slice_index}
use Rattle.label_cells.proofs.split_runs.greatest.Given as goal

abbrev pub invariant-loop-l : goal.invariant-loop-l
invariant-loop-l v = record {
  few : v.greatest ≤ 2532;
  greatest : (k : ℕ) → k < v.l → slice_index v.lanes k ≤ v.greatest;
}
