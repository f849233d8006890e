use Rattle.std.proofs.Common.{◌≡◌, ◌<◌, ◌≤◌, ℕ, slice_index}
use Rattle.trip_lanes.specs.Since.{IsMinutely}
use Rattle.trip_lanes.proofs.sixteen.SixteenLaneLabels.minutely.Given as goal

-- the lanes so far have their departures, and the others none
abbrev pub invariant-loop-l : goal.invariant-loop-l
invariant-loop-l v =
    record {
      done : (k : ℕ) → k < v.l → IsMinutely v.fn.first v.fn.minutes 65535 k (slice_index v.departs k);
      rest : (k : ℕ) → v.l ≤ k → k < 16 → slice_index v.departs k ≡ 65535;
    }
