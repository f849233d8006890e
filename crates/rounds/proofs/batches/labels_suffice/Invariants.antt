use Rattle.std.proofs.Common.{◌≡◌, ◌≢◌, ℕ, ◌+◌, ◌<◌, slice_index}
use Rattle.trip_lanes.specs.Lane.{lane, labels_in}
use Rattle.rounds.specs.State.{arrival}
use Rattle.rounds.proofs.batches.labels_suffice.Given as goal

abbrev pub invariant-loop-stop : goal.invariant-loop-stop
invariant-loop-stop g v =
    (l p : ℕ) → l < g.R.LaneLabels.LANES → p < v.stop →
    slice_index (g.R.LaneLabels.labels v.departures) l ≢ g.R.LaneLabels.NEVER →
    arrival (lane l (labels_in g.R.LaneLabels.labels v.ride)) (lane l (labels_in g.R.LaneLabels.labels v.ready)) p
    ≡ g.R.LaneLabels.NEVER → slice_index v.last p < v.base + g.R.LaneLabels.NEVER
