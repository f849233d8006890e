use Rattle.std.proofs.Common.{◌≡◌, ◌≢◌, ◌<◌, ℕ, length, slice_index}
use Rattle.label_cells.specs.Groups.{is_used}
use Rattle.label_cells.proofs.used.mark_opportunities.Given as goal

abbrev pub invariant-loop-p : goal.invariant-loop-p
invariant-loop-p v = record {
  same : length v.used ≡ length v.initial.used;
  marked : (p : ℕ) → p < v.p → slice_index v.opportunities p ≢ 0 → is_used v.used (slice_index v.numbers p);
  kept : (q : ℕ) → is_used v.initial.used q → is_used v.used q;
}
