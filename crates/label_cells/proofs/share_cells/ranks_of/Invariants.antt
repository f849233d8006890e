use Rattle.std.proofs.Common.{◌≡◌, ◌+◌, ◌*◌, ◌/◌, ◌<◌, ℕ, length, slice_index}
use Rattle.label_cells.proofs.share_cells.ranks_of.Given as goal

abbrev pub invariant-loop-share : goal.invariant-loop-share
invariant-loop-share v = record {
  count : length v.ranks.items ≡ v.share-index;
  each : (k : ℕ) → k < v.share-index → slice_index v.ranks.items k ≡ (slice_index v.shares k * v.minutes + 99) / 100;
}
