use Rattle.std.proofs.Common.{ℕ, ◌<◌, slice_index}
use Rattle.timetable.specs.RoundSteps.{Lowers}
use Rattle.timetable.specs.declared.least.TheConstants.{NEVER}
use Rattle.trip_lanes.specs.Lane.{lane}
use Rattle.trip_lanes.proofs.WalkInOneLane.{LaterBelow}
use Rattle.trip_lanes.proofs.plain.walk_from.Given as goal

abbrev pub invariant-loop-to : goal.invariant-loop-to
invariant-loop-to l = (k : ℕ) → k < 16 →
    Lowers (LaterBelow NEVER l.leaving (slice_index l.times k) l.to-index) (lane k l.initial.ready) (lane k l.ready)
