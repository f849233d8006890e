use Rattle.std.proofs.Common.{◌≡◌, ℕ, ◌*◌, ◌<◌, length, slice_index}
use Rattle.useful_minutes.specs.Waits.{label_from}
use Rattle.useful_minutes.proofs.waits.copy_stop.Given as goal

abbrev pub invariant-loop-chunk : goal.invariant-loop-chunk
invariant-loop-chunk v =
    record {
      same : length v.near ≡ length v.initial.near;
      copied : (m : ℕ) → m < 16 * v.chunk → slice_index v.near m ≡ label_from v.from v.labels m;
    }
