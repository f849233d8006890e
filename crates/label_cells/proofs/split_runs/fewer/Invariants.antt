use Rattle.std.proofs.Common.{◌≡◌, ◌≤◌, ◌<◌, ℕ, [], ltb, cond, slice_index, slice_index_or}
use Rattle.label_cells.specs.Sums.{sum_to}
use Rattle.label_cells.proofs.split_runs.fewer.Given as goal

abbrev pub invariant-loop-here : goal.invariant-loop-here
invariant-loop-here v = record {
  is : (l : ℕ) → l < 16 → slice_index v.count l ≡
      sum_to (λ i. cond (ltb (slice_index (slice_index_or v.covering i []) l) (slice_index v.seconds l)) 1 0)
      v.here-index;
  few : (l : ℕ) → l < 16 → slice_index v.count l ≤ v.here-index;
}
