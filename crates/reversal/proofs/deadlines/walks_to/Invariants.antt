use Rattle.std.proofs.Common.{◌≡◌, ◌<◌, ℕ, length, slice_index}
use Rattle.timetable.specs.Least.{IsLeastOrNever}
use Rattle.reversal.specs.Deadlines.{IsWalkAlone}
use Rattle.reversal.proofs.deadlines.walks_to.Given as goal

-- the walks from the stops that were visited
abbrev pub invariant-loop-a : goal.invariant-loop-a
invariant-loop-a l =
    record {
      count : length l.walks.items ≡ l.a;
      each : (b : ℕ) → b < l.a →
          IsLeastOrNever (IsWalkAlone l.feet.walks b l.destination.0) (slice_index l.walks.items b);
    }
