use Rattle.std.proofs.Common.{◌≡◌, ℕ, ◌+◌, ◌<◌, ◌≤◌, ◌⊎◌, length, slice_index}
use Rattle.useful_minutes.proofs.waits.put_four.Given as goal

abbrev pub invariant-loop-l : goal.invariant-loop-l
invariant-loop-l v =
    record {
      same : length v.labels ≡ length v.initial.labels;
      put : (k : ℕ) → k < v.l → slice_index v.labels (v.at + k) ≡ slice_index v.four k;
      kept : (m : ℕ) → (m < v.at) ⊎ (v.at + 4 ≤ m) → slice_index v.labels m ≡ slice_index v.initial.labels m;
    }
