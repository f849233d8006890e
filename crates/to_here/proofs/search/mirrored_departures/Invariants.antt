use Rattle.std.proofs.Common.{◌≡◌, ◌-◌, ◌<◌, ℕ, length, slice_index}
use Rattle.to_here.proofs.search.mirrored_departures.Given as goal

abbrev pub invariant-loop-i : goal.invariant-loop-i
invariant-loop-i l =
    record {
      count : length l.departures.items ≡ l.i;
      each : (k : ℕ) → k < l.i → slice_index l.departures.items k
          ≡ l.horizon - slice_index l.deadlines (length l.deadlines - 1 - k);
    }
