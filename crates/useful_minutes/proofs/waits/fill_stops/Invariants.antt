use Rattle.std.proofs.Common.{◌≡◌, ℕ, ◌*◌, ◌<◌, ◌≤◌, [], length, slice_index, slice_index_or}
use Rattle.useful_minutes.specs.Waits.{label_at, waited}
use Rattle.useful_minutes.proofs.waits.fill_stops.Given as goal

abbrev pub invariant-loop-stop : goal.invariant-loop-stop
invariant-loop-stop v =
    record {
      same : length v.labels ≡ length v.initial.labels;
      near : length v.near ≡ length v.initial.near;
      filled : (p m : ℕ) → p < v.stop → m < length v.positions → label_at v.chunks v.labels p m
          ≡ waited (label_at v.chunks v.initial.labels p (slice_index v.positions m)) (slice_index v.waits m);
      kept : (i : ℕ) → v.stop * v.chunks ≤ i → slice_index_or v.labels i [] ≡ slice_index_or v.initial.labels i [];
    }
