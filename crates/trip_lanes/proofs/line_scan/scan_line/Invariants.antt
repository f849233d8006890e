use Rattle.std.proofs.Common.{◌≡◌, ℕ, ◌<◌, ◌≤◌, List, length, slice_index}
use Rattle.timetable.specs.declared.trips.Event.{Event}
use Rattle.trip_lanes.specs.Lane.{lane, labels_in, MarksFallenOf}
use Rattle.trip_lanes.specs.Falls.{AreFalls}
use Rattle.trip_lanes.specs.Ranks.{Rides, IsSpanOf}
use Rattle.trip_lanes.specs.Rows.{IsCutViewOf, NoneOvertakes}
use Rattle.trip_lanes.proofs.LineByPositions.{LineAt}
use Rattle.trip_lanes.proofs.line_scan.scan_line.Given as goal

abbrev pub invariant-loop-position : goal.invariant-loop-position
invariant-loop-position g l =
    record {
      stops : length l.ride ≡ length l.initial.ride;
      ranks : (k r : ℕ) → k < g.R.LaneLabels.LANES → Rides g.R.LaneLabels.NEVER (g.R.LaneLabels.labels l.run) k r →
          r < l.line.trips;
      runs : (k : ℕ) → k < g.R.LaneLabels.LANES → slice_index (g.R.LaneLabels.labels l.run) k ≤ g.R.LaneLabels.NEVER;
      spans : IsSpanOf g.R.LaneLabels.LANES g.R.LaneLabels.NEVER (g.R.LaneLabels.labels l.run) l.span;
      ends : l.span.end ≤ l.line.trips;
      fell : (k p : ℕ) → k < g.R.LaneLabels.LANES → slice_index (lane k (labels_in g.R.LaneLabels.labels l.ride)) p
          ≤ slice_index (lane k (labels_in g.R.LaneLabels.labels l.initial.ride)) p;
      marks : MarksFallenOf g.R.LaneLabels.LANES (labels_in g.R.LaneLabels.labels l.initial.ride)
          (labels_in g.R.LaneLabels.labels l.ride)
          l.initial.marked l.marked;
      lanes : (rows : List (List Event)) → IsCutViewOf l.line.base g.R.LaneLabels.NEVER rows l.line.calls.now
          l.line.times.now → length rows ≡ l.line.trips → NoneOvertakes rows →
          (k : ℕ) (before : List ℕ) → k < g.R.LaneLabels.LANES →
          AreFalls before (lane k (labels_in g.R.LaneLabels.labels l.labels.ready.now)) l.labels.falls.now →
          LineAt before (lane k (labels_in g.R.LaneLabels.labels l.labels.ready.now)) rows l.fn.from l.position
          l.position
          (lane k (labels_in g.R.LaneLabels.labels l.initial.ride)) (lane k (labels_in g.R.LaneLabels.labels l.ride))
          (Rides g.R.LaneLabels.NEVER (g.R.LaneLabels.labels l.run) k);
    }
