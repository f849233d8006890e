use Rattle.std.proofs.Common.{◌≡◌, ◌<◌, ℕ, length, slice_index}
use Rattle.label_cells.specs.Groups.{is_used, stop_at}
use Rattle.label_cells.proofs.used.mark_destinations.Given as goal

abbrev pub invariant-loop-k : goal.invariant-loop-k
invariant-loop-k v = record {
  same : length v.used ≡ length v.initial.used;
  marked : (j : ℕ) → j < v.k → is_used v.used (slice_index v.numbers (stop_at v.destinations j));
  kept : (q : ℕ) → is_used v.initial.used q → is_used v.used q;
}
