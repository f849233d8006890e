use Rattle.std.proofs.Common.{◌≡◌, ◌≤◌, length, sum_by}
use Rattle.timetable.specs.Footpaths.{rows_of}
use Rattle.footpaths.specs.Dijkstra.{marks, AreFresh}
use Rattle.footpaths.proofs.ClosedRows.{AreClosedBelow}
use Rattle.footpaths.proofs.closure.closed_lists.Given as goal

abbrev pub invariant-loop-source : goal.invariant-loop-source
invariant-loop-source l =
    record {
      closed : AreClosedBelow l.direct.pairs l.limit l.source (rows_of l.lists.items);
      sum : sum_by length (rows_of l.lists.items) ≡ l.pairs;
      few : l.pairs ≤ 4000000;
      count : length l.dijkstra.labels.items ≡ l.direct.stops;
      fresh : AreFresh l.direct.stops (marks l.dijkstra);
    }
