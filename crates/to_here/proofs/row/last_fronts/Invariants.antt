use Rattle.std.proofs.Common.{◌≡◌, ◌<◌, ℕ, length, slice_index}
use Rattle.to_here.specs.Front.{IsFrontOf}
use Rattle.to_here.proofs.row.last_fronts.Given as goal

abbrev pub invariant-loop-label : goal.invariant-loop-label
invariant-loop-label l =
    record {
      count : length l.lasts.items ≡ l.label-index;
      each : (o : ℕ) → o < l.label-index →
          IsFrontOf l.window l.end (slice_index l.labels o) (slice_index l.lasts.items o);
    }
