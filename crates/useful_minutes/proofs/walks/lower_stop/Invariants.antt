use Rattle.std.proofs.Common.{◌≡◌, ◌≢◌, ℕ, ◌*◌, ◌<◌, ◌≤◌, ◌⊎◌, length, min}
use Rattle.useful_minutes.specs.Waits.{label_at}
use Rattle.useful_minutes.proofs.walks.lower_stop.Given as goal

abbrev pub invariant-loop-m : goal.invariant-loop-m
invariant-loop-m v =
    record {
      same : length v.labels ≡ length v.initial.labels;
      lowered : (k : ℕ) → k < v.m →
          label_at v.chunks v.labels v.stop k ≡ min (label_at v.chunks v.initial.labels v.stop k) v.seconds;
      kept : (p k : ℕ) → k < 16 * v.chunks → (p ≢ v.stop) ⊎ (v.m ≤ k) →
          label_at v.chunks v.labels p k ≡ label_at v.chunks v.initial.labels p k;
    }
