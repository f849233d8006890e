use Rattle.std.proofs.Common.{◌≤◌, ◌<◌, ℕ, slice_index}
use Rattle.timetable.specs.declared.least.TheConstants.{NEVER}
use Rattle.shares.proofs.percentiles.greatest_lane.Given as goal

abbrev pub invariant-loop-l : goal.invariant-loop-l
invariant-loop-l v =
    record {
      below : v.greatest < NEVER;
      greatest : (k : ℕ) → k < v.l → slice_index v.lanes k ≤ v.greatest;
    }
