use Rattle.std.proofs.Common.{◌-◌, ℕ, ◌<◌, ◌≤◌}
use Rattle.trip_lanes.specs.Columns.{IsTimeOf, departs}
use Rattle.trip_lanes.specs.Ranks.{Ascend}
use Rattle.trip_lanes.proofs.line_scan.forth.Given as goal

abbrev pub invariant-loop-first : goal.invariant-loop-first
invariant-loop-first l = record {
  within : l.first ≤ l.column.trips;
  early : (label : ℕ) → IsTimeOf l.column label l.time → Ascend (departs l.column) l.column.trips →
      (r : ℕ) → r < l.first → departs l.column r < label;
}

abbrev pub decreases-loop-first : goal.decreases-loop-first
decreases-loop-first l = l.column.trips - l.first
