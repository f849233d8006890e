use Rattle.std.proofs.Common.{◌≡◌, ◌≢◌, ◌<◌, ◌+◌, ◌*◌, ℕ, slice_index}
use Rattle.label_cells.proofs.ends.same_eight.Given as goal

abbrev pub invariant-loop-l : goal.invariant-loop-l
invariant-loop-l v = record {
  same : (k l : ℕ) → k < 8 → l < v.l → slice_index v.same k ≢ 0 →
      slice_index v.found (v.from + l * v.width + v.at + k) ≡ slice_index v.found (v.from + l * v.width + v.at + k + 1);
}
