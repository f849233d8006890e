use Rattle.std.proofs.Common.{◌-◌, ◌≤◌}
use Rattle.trip_lanes.proofs.line_scan.guess.Given as goal

abbrev pub invariant-loop-low : goal.invariant-loop-low
invariant-loop-low l = record { order : l.low ≤ l.high; within : l.high ≤ l.column.trips }

abbrev pub decreases-loop-low : goal.decreases-loop-low
decreases-loop-low l = l.high - l.low
