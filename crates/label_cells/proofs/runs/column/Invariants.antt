use Rattle.std.proofs.Common.{◌≡◌, ◌<◌, ◌+◌, ◌*◌, ℕ, length, slice_index}
use Rattle.label_cells.proofs.runs.column.Given as goal

abbrev pub invariant-loop-l : goal.invariant-loop-l
invariant-loop-l v = record {
  long : length v.labels ≡ 16;
  labels : (k : ℕ) → k < v.l → slice_index v.labels k ≡ slice_index v.found (v.from + k * v.width + v.j);
}
