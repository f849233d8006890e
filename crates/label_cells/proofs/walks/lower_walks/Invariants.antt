use Rattle.std.proofs.Common.{◌≡◌, ◌<◌, ℕ, length}
use Rattle.rounds.specs.Table.{known_of}
use Rattle.rounds.specs.Labels.{least_walk, lesser}
use Rattle.label_cells.specs.Groups.{cell_at}
use Rattle.label_cells.proofs.walks.lower_walks.Given as goal

abbrev pub invariant-loop-i : goal.invariant-loop-i
invariant-loop-i v = record {
  same : length v.cells ≡ length v.initial.cells;
  walked : (q k : ℕ) → k < v.ranks → known_of (cell_at v.ranks v.cells q k)
      ≡ lesser (known_of (cell_at v.ranks v.initial.cells q k)) (least_walk v.walks q v.i);
}
