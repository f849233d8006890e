use Rattle.std.proofs.Common.{◌≡◌, ◌<◌, ℕ, length, slice_index_or, None, Some}
use Rattle.std.specs.List.{slice_get}
use Rattle.timetable.specs.declared.trips.StopNo.{StopNo}
use Rattle.shares.specs.Percentiles.{IsCell}
use Rattle.shares.proofs.percentiles.cells_at.Given as goal

abbrev pub invariant-loop-k : goal.invariant-loop-k
invariant-loop-k l = record {
  count : length l.cells.items ≡ l.k;
  each : (j : ℕ) (stop : StopNo) → j < l.k → slice_get l.destinations j ≡ Some stop →
      IsCell l.durations l.share stop.0 (slice_index_or l.cells.items j None);
}
