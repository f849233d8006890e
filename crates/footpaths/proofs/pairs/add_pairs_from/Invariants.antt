use Rattle.std.proofs.Common.{◌≡◌, map, filter, take}
use Rattle.timetable.specs.declared.trips.StopNo.{StopNo}
use Rattle.table_files.specs.Ends.{differ}
use Rattle.footpaths.specs.Pairs.{with_more}
use Rattle.footpaths.proofs.pairs.add_pairs_from.Given as goal

abbrev pub invariant-loop-stop : goal.invariant-loop-stop
invariant-loop-stop l = l.direct ≡ with_more l.fn.direct
    (map (λ (stop : StopNo). (l.from, stop, l.seconds)) (filter (differ l.from) (take l.stop-index l.to)))
