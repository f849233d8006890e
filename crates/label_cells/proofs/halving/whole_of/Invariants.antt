use Rattle.std.proofs.Common.{◌<◌, ◌-◌, ◌^◌, ℕ, slice_index}
use Rattle.label_cells.specs.Places.{IsPlaced}
use Rattle.label_cells.proofs.halving.whole_of.Given as goal

abbrev pub invariant-loop-k : goal.invariant-loop-k
invariant-loop-k v = record {
  placed : (l : ℕ) → l < 16 → IsPlaced v.rows l v.rank (slice_index v.whole l) (slice_index v.under l) (2 ^ (v.bits -
      v.k)) (2 ^ v.bits);
}
