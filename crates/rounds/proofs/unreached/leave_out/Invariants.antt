use Rattle.std.proofs.Common.{◌≡◌, ◌≢◌, ℕ, ◌≤◌, slice_index}
use Rattle.trip_lanes.specs.Lane.{lane, labels_in}
use Rattle.rounds.specs.State.{arrival}
use Rattle.rounds.proofs.unreached.leave_out.Given as goal

abbrev pub invariant-loop-stop : goal.invariant-loop-stop
invariant-loop-stop g v =
    record {
      falls : (p : ℕ) → slice_index v.last p ≤ slice_index v.initial.last p;
      kept : (p : ℕ) → arrival (lane 0 (labels_in g.R.LaneLabels.labels v.ride))
          (lane 0 (labels_in g.R.LaneLabels.labels v.ready)) p
          ≢ g.R.LaneLabels.NEVER → slice_index v.last p ≡ slice_index v.initial.last p;
    }
