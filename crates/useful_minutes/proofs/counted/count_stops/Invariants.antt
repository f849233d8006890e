use Rattle.std.proofs.Common.{◌≡◌, ℕ, ◌*◌, ◌/◌, ◌<◌, length}
use Rattle.useful_minutes.specs.CountedChunks.{IsDurationAt}
use Rattle.useful_minutes.specs.Waits.{label_at}
use Rattle.useful_minutes.proofs.counted.count_stops.Given as goal

abbrev pub invariant-loop-stop : goal.invariant-loop-stop
invariant-loop-stop v =
    record {
      size : length v.durations.items ≡ v.stop * (length v.counting.positions.now / 16);
      each : (p m : ℕ) → p < v.stop → m < length v.counting.positions.now → IsDurationAt v.counting p m
          (label_at (length v.counting.positions.now / 16) v.durations.items p m);
    }
