use Rattle.std.proofs.Common.{◌≡◌, ◌<◌, ℕ, true, is_some, None, slice_index_or}
use Rattle.collector.proofs.places.Collector.first_empty.Given as goal

abbrev pub invariant-loop-k : goal.invariant-loop-k
invariant-loop-k l = (j : ℕ) → j < l.k → is_some (slice_index_or l.self.rows j None) ≡ true
