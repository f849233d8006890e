use Rattle.std.proofs.Common.{◌≤◌}
use Rattle.trip_lanes.proofs.line_scan.back.Given as goal

abbrev pub invariant-loop-first : goal.invariant-loop-first
invariant-loop-first l = record { within : l.first ≤ l.fn.start }

abbrev pub decreases-loop-first : goal.decreases-loop-first
decreases-loop-first l = l.first
