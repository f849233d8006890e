use Rattle.std.proofs.Common.{◌≡◌, ℕ, ◌<◌, length}
use Rattle.timetable.specs.RoundSteps.{Lowers}
use Rattle.trip_lanes.specs.Lane.{lane, labels_in, MarksFallenOf}
use Rattle.rounds.specs.Cut.{cut_trips}
use Rattle.rounds.proofs.LineByLine.{CarriesBelow}
use Rattle.rounds.proofs.scan.scan_lines.Given as goal

abbrev pub invariant-loop-i : goal.invariant-loop-i
invariant-loop-i g v =
    record {
      same : length v.ride ≡ length v.initial.ride;
      marked : length v.marked ≡ length v.ride;
      lanes : (k : ℕ) → k < g.R.LaneLabels.LANES → Lowers
          (CarriesBelow (lane k (labels_in g.R.LaneLabels.labels v.round.labels.ready.now))
          (cut_trips v.round.base g.R.LaneLabels.NEVER v.round.trips.now) v.round.lines.now.lines v.i)
          (lane k (labels_in g.R.LaneLabels.labels v.initial.ride)) (lane k (labels_in g.R.LaneLabels.labels v.ride));
      marks : MarksFallenOf g.R.LaneLabels.LANES (labels_in g.R.LaneLabels.labels v.initial.ride)
          (labels_in g.R.LaneLabels.labels v.ride)
          v.initial.marked v.marked;
    }
