use Rattle.std.proofs.Common.{◌≡◌, ℕ, ◌<◌, List, length, slice_index}
use Rattle.timetable.specs.RoundSteps.{Lowers}
use Rattle.trip_lanes.specs.Lane.{lane, labels_in, MarksFallenOf}
use Rattle.trip_lanes.proofs.WalkInOneLane.{LaterBelow}
use Rattle.trip_lanes.specs.Falls.{AreNoted}
use Rattle.trip_lanes.proofs.marked_walks.walk_noting.Given as goal

abbrev pub invariant-loop-to : goal.invariant-loop-to
invariant-loop-to g l =
    record {
      same : length l.fallen ≡ length l.ready;
      lanes : (k : ℕ) → k < g.R.LaneLabels.LANES → Lowers
          (LaterBelow g.R.LaneLabels.NEVER l.leaving (slice_index (g.R.LaneLabels.labels l.times) k) l.to-index)
          (lane k (labels_in g.R.LaneLabels.labels l.initial.ready)) (lane k (labels_in g.R.LaneLabels.labels l.ready));
      marks : MarksFallenOf g.R.LaneLabels.LANES (labels_in g.R.LaneLabels.labels l.initial.ready)
          (labels_in g.R.LaneLabels.labels l.ready)
          l.initial.fallen l.fallen;
      befores : length l.before ≡ length l.initial.before;
      noted : (k : ℕ) (was : List ℕ) → k < g.R.LaneLabels.LANES →
          AreNoted was (lane k (labels_in g.R.LaneLabels.labels l.initial.ready))
          (lane k (labels_in g.R.LaneLabels.labels l.initial.before)) l.initial.fallen →
          AreNoted was (lane k (labels_in g.R.LaneLabels.labels l.ready))
          (lane k (labels_in g.R.LaneLabels.labels l.before))
          l.fallen;
    }
