use Rattle.std.proofs.Common.{ℕ, ◌<◌, ◌≤◌, ◌⊎◌, slice_index}
use Rattle.trip_lanes.specs.Columns.{departs}
use Rattle.trip_lanes.specs.Ranks.{Rides, RidesBy}
use Rattle.trip_lanes.proofs.line_scan.board_position.Given as goal

abbrev pub invariant-loop-rank : goal.invariant-loop-rank
invariant-loop-rank g l =
    record {
      fits : (k : ℕ) → k < g.R.LaneLabels.LANES → slice_index (g.R.LaneLabels.labels l.riding) k ≤ g.R.LaneLabels.NEVER;
      ranks : (k r : ℕ) → k < g.R.LaneLabels.LANES → Rides g.R.LaneLabels.NEVER (g.R.LaneLabels.labels l.riding) k r →
          r < l.column.trips;
      sound : (k r : ℕ) → k < g.R.LaneLabels.LANES → Rides g.R.LaneLabels.NEVER (g.R.LaneLabels.labels l.riding) k r →
          Rides g.R.LaneLabels.NEVER (g.R.LaneLabels.labels l.fn.run) k r
          ⊎ (slice_index (g.R.LaneLabels.labels l.ready) k ≤ departs l.column r);
      kept : (k r : ℕ) → k < g.R.LaneLabels.LANES → Rides g.R.LaneLabels.NEVER (g.R.LaneLabels.labels l.fn.run) k r →
          RidesBy g.R.LaneLabels.NEVER (g.R.LaneLabels.labels l.riding) k r;
      caught : (k r : ℕ) → k < g.R.LaneLabels.LANES → l.fn.first ≤ r → r < l.rank →
          slice_index (g.R.LaneLabels.labels l.ready) k ≤ departs l.column r →
          RidesBy g.R.LaneLabels.NEVER (g.R.LaneLabels.labels l.riding) k r;
    }
