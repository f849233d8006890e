use Rattle.std.proofs.Common.{◌≡◌, ℕ, ◌<◌, List, length}
use Rattle.timetable.specs.RoundSteps.{Lowers}
use Rattle.trip_lanes.proofs.WalksByStops.{TransferredBelow}
use Rattle.trip_lanes.specs.Lane.{lane, labels_in, MarksFallenOf}
use Rattle.trip_lanes.specs.Falls.{AreNoted}
use Rattle.trip_lanes.proofs.marked_walks.transfer_marked.Given as goal

abbrev pub invariant-loop-stop : goal.invariant-loop-stop
invariant-loop-stop g l =
    record {
      same : length l.ready ≡ length l.ride;
      lanes : (k : ℕ) → k < g.R.LaneLabels.LANES → Lowers
          (TransferredBelow l.feet (lane k (labels_in g.R.LaneLabels.labels l.ride)) l.stop)
          (lane k (labels_in g.R.LaneLabels.labels l.initial.ready)) (lane k (labels_in g.R.LaneLabels.labels l.ready));
      falls : length l.fallen ≡ length l.ride;
      marks : MarksFallenOf g.R.LaneLabels.LANES (labels_in g.R.LaneLabels.labels l.initial.ready)
          (labels_in g.R.LaneLabels.labels l.ready)
          l.initial.fallen l.fallen;
      befores : length l.before ≡ length l.initial.before;
      noted : (k : ℕ) (was : List ℕ) → k < g.R.LaneLabels.LANES →
          AreNoted was (lane k (labels_in g.R.LaneLabels.labels l.initial.ready))
          (lane k (labels_in g.R.LaneLabels.labels l.initial.before)) l.initial.fallen →
          AreNoted was (lane k (labels_in g.R.LaneLabels.labels l.ready))
          (lane k (labels_in g.R.LaneLabels.labels l.before))
          l.fallen;
    }
