use Rattle.std.proofs.Common.{◌≡◌, ℕ, ◌<◌, length, slice_index}
use Rattle.timetable.specs.declared.least.TheConstants.{NEVER}
use Rattle.useful_minutes.proofs.WalksAlone.{IsWalkedBefore}
use Rattle.useful_minutes.proofs.marks.walks_from.Given as goal

abbrev pub invariant-loop-stop : goal.invariant-loop-stop
invariant-loop-stop v =
    record {
      long : length v.walks.items ≡ v.network.stops;
      each : (p : ℕ) → p < v.network.stops → IsWalkedBefore v.network v.fn.origin.0 v.stop-items v.stop-index p NEVER
          (slice_index v.walks.items p);
    }
