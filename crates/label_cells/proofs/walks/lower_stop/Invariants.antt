use Rattle.std.proofs.Common.{◌≡◌, ◌≢◌, ◌<◌, ◌≤◌, ℕ, length, min}
use Rattle.label_cells.specs.Groups.{cell_at}
use Rattle.label_cells.proofs.walks.lower_stop.Given as goal

abbrev pub invariant-loop-k : goal.invariant-loop-k
invariant-loop-k v = record {
  same : length v.cells ≡ length v.initial.cells;
  lowered : (j : ℕ) → j < v.k →
      cell_at v.ranks v.cells v.number j ≡ min (cell_at v.ranks v.initial.cells v.number j) v.seconds;
  rest : (j : ℕ) → v.k ≤ j → j < v.ranks →
      cell_at v.ranks v.cells v.number j ≡ cell_at v.ranks v.initial.cells v.number j;
  kept : (q j : ℕ) → j < v.ranks → q ≢ v.number →
      cell_at v.ranks v.cells q j ≡ cell_at v.ranks v.initial.cells q j;
}
