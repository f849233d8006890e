use Rattle.std.proofs.Common.{◌<◌, ◌-◌, ◌^◌, ℕ, slice_index}
use Rattle.label_cells.specs.Places.{IsLeft}
use Rattle.label_cells.proofs.halving.rest_of.Given as goal

abbrev pub invariant-loop-k : goal.invariant-loop-k
invariant-loop-k v = record {
  left : (l : ℕ) → l < 16 →
      IsLeft v.rows l (slice_index v.fn.at l) (slice_index v.left l) (slice_index v.rest l) (2 ^ (6 - v.k));
}
