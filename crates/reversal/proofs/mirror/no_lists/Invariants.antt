use Rattle.std.proofs.Common.{◌≡◌, [], replicate}
use Rattle.timetable.specs.Footpaths.{rows_of}
use Rattle.reversal.proofs.mirror.no_lists.Given as goal

abbrev pub invariant-loop : goal.invariant-loop
invariant-loop l = rows_of l.lists.items ≡ replicate l.counter []
