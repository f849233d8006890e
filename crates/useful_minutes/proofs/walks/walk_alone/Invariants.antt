use Rattle.std.proofs.Common.{◌≡◌, ℕ, ◌*◌, ◌<◌, ◌≤◌, length}
use Rattle.useful_minutes.specs.Waits.{label_at}
use Rattle.useful_minutes.proofs.WalksAlone.{IsWalkedBefore}
use Rattle.useful_minutes.proofs.walks.walk_alone.Given as goal

abbrev pub invariant-loop-stop : goal.invariant-loop-stop
invariant-loop-stop v =
    record {
      same : length v.labels ≡ length v.fn.labels;
      walked : (p m : ℕ) → p < v.network.stops → m < v.fn.minutes →
          IsWalkedBefore v.network v.fn.origin.0 v.stop-items v.stop-index p (label_at v.fn.chunks v.fn.labels p m)
          (label_at v.fn.chunks v.labels p m);
      kept : (p m : ℕ) → p < v.network.stops → v.fn.minutes ≤ m → m < 16 * v.fn.chunks →
          label_at v.fn.chunks v.labels p m ≡ label_at v.fn.chunks v.fn.labels p m;
    }
