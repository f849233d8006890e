use Rattle.timetable.specs.FlatLists.{lists_of}
use Rattle.timetable.specs.LineViews.{AreFor, IsCalls, IsTimes}
use Rattle.timetable.proofs.views.views_of.Given as goal

abbrev pub invariant-loop-number : goal.invariant-loop-number
invariant-loop-number l =
    record {
      calls : AreFor (IsCalls l.trips) l.number l.lines (lists_of l.calls.items);
      times : AreFor (IsTimes l.trips) l.number l.lines (lists_of l.times.items);
    }
