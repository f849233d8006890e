use Rattle.std.proofs.Common.{◌≡◌, ℕ, ◌+◌, ◌*◌, ◌<◌, ◌≤◌, ◌⊎◌, length, slice_index}
use Rattle.useful_minutes.proofs.waits.copy_chunk.Given as goal

abbrev pub invariant-loop-l : goal.invariant-loop-l
invariant-loop-l v =
    record {
      same : length v.near ≡ length v.initial.near;
      copied : (k : ℕ) → k < v.l → slice_index v.near (16 * v.chunk + k) ≡ slice_index v.lanes k;
      kept : (m : ℕ) → (m < 16 * v.chunk) ⊎ (16 * v.chunk + 16 ≤ m) →
          slice_index v.near m ≡ slice_index v.initial.near m;
    }
