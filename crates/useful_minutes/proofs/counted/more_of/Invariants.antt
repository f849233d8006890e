use Rattle.std.proofs.Common.{◌≡◌, ℕ, ◌+◌, ◌*◌, ◌<◌, ◌≤◌, length, slice_index}
use Rattle.timetable.specs.declared.least.TheConstants.{NEVER}
use Rattle.useful_minutes.specs.CountedChunks.{IsMore}
use Rattle.useful_minutes.proofs.counted.more_of.Given as goal

abbrev pub invariant-loop-l : goal.invariant-loop-l
invariant-loop-l v =
    record {
      size : length v.more ≡ 16;
      done : (k : ℕ) → k < v.l → IsMore v.counting (16 * v.chunk + k) (slice_index v.more k);
      rest : (k : ℕ) → v.l ≤ k → k < 16 → slice_index v.more k ≡ NEVER;
    }
