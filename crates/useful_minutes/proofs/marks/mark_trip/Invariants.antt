use Rattle.std.proofs.Common.{◌+◌, slice_index}
use Rattle.timetable.specs.LineViews.{departures_in}
use Rattle.useful_minutes.specs.Marks.{Grows}
use Rattle.useful_minutes.proofs.MarkedTrips.{IsCoveredTo}
use Rattle.useful_minutes.proofs.marks.mark_trip.Given as goal

abbrev pub invariant-loop-position : goal.invariant-loop-position
invariant-loop-position v =
    record {
      grows : Grows v.initial.marks v.marks;
      covers : IsCoveredTo v.first v.boardings (λ j. slice_index (departures_in v.times) (v.from + j)) v.marks
          v.position-index v.next;
    }
