use Rattle.std.proofs.Common.{◌≡◌, ℕ, ◌+◌, ◌*◌, ◌<◌, ◌≤◌, ◌⊎◌, [], length, slice_index, slice_index_or}
use Rattle.useful_minutes.specs.Waits.{label_from, waited}
use Rattle.useful_minutes.proofs.waits.fill_stop.Given as goal

abbrev pub invariant-loop-chunk : goal.invariant-loop-chunk
invariant-loop-chunk v =
    record {
      same : length v.labels ≡ length v.initial.labels;
      filled : (m : ℕ) → m < 16 * v.chunk → label_from v.from v.labels m
          ≡ waited (slice_index v.near (slice_index v.positions m)) (slice_index v.waits m);
      kept : (i : ℕ) → (i < v.from) ⊎ (v.from + v.chunk ≤ i) →
          slice_index_or v.labels i [] ≡ slice_index_or v.initial.labels i [];
    }
