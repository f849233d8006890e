use Rattle.std.proofs.Common.{◌≡◌, ℕ, ◌+◌, ◌*◌, ◌<◌, [], length, slice_index, slice_index_or}
use Rattle.useful_minutes.specs.CountedChunks.{IsDurationAt}
use Rattle.useful_minutes.proofs.counted.count_stop.Given as goal

abbrev pub invariant-loop-chunk : goal.invariant-loop-chunk
invariant-loop-chunk v =
    record {
      size : length v.durations.items ≡ length v.initial.durations.items + v.chunk;
      kept : (i : ℕ) → i < length v.initial.durations.items →
          slice_index_or v.durations.items i [] ≡ slice_index_or v.initial.durations.items i [];
      added : (n l : ℕ) → n < v.chunk → l < 16 → IsDurationAt v.counting v.stop (16 * n + l)
          (slice_index (slice_index_or v.durations.items (length v.initial.durations.items + n) []) l);
    }
