use Rattle.std.proofs.Common.{◌≡◌, ◌+◌, ◌<◌, ℕ, [], Option, length, slice_index, slice_index_or}
use Rattle.rounds.specs.Table.{known_of}
use Rattle.label_cells.specs.Durations.{IsCellOf}
use Rattle.label_cells.specs.SplitRuns.{AreSplitRuns}
use Rattle.label_cells.proofs.group.push_ranks.Given as goal

abbrev pub invariant-loop-k : goal.invariant-loop-k
invariant-loop-k v = record {
  covering : length v.covering ≡ length v.rows;
  size : length v.cells.items ≡ length v.initial.cells.items + v.k;
  kept : (i : ℕ) → i < length v.initial.cells.items →
      slice_index_or v.cells.items i [] ≡ slice_index_or v.initial.cells.items i [];
  added : (j l minutes : ℕ) (of_minute : ℕ → Option ℕ) → j < v.k → l < 16 →
      AreSplitRuns of_minute minutes (slice_index v.summary.low l) l v.rows →
      IsCellOf of_minute minutes (slice_index v.ranks j)
      (known_of (slice_index (slice_index_or v.cells.items (length v.initial.cells.items + j) []) l));
}
