use Rattle.std.proofs.Common.{◌≡◌, ◌++◌, map, take}
use Rattle.timetable.specs.declared.trips.StopNo.{StopNo}
use Rattle.matrix_text.specs.Text.{text_at}
use Rattle.matrix_text.proofs.text.push_stops.Given as goal

abbrev pub invariant-loop-stop : goal.invariant-loop-stop
invariant-loop-stop l = l.line ≡ l.fn.line ++ map (λ (stop : StopNo). text_at l.feed.stops stop.0)
    (take l.stop-index l.destinations)
