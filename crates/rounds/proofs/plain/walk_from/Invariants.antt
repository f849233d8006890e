use Rattle.timetable.specs.RoundSteps.{Lowers}
use Rattle.trip_lanes.proofs.WalksByStops.{LeavesBelow}
use Rattle.rounds.proofs.plain.walk_from.Given as goal

abbrev pub invariant-loop-to : goal.invariant-loop-to
invariant-loop-to l = Lowers (LeavesBelow l.leaving l.time l.to-index) l.initial.ready l.ready
