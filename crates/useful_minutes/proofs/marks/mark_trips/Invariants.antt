use Rattle.std.proofs.Common.{ℕ, ◌+◌, ◌*◌, ◌<◌, length, slice_index}
use Rattle.timetable.specs.LineViews.{departures_in}
use Rattle.useful_minutes.specs.Marks.{CoversTrip, Grows}
use Rattle.useful_minutes.proofs.marks.mark_trips.Given as goal

abbrev pub invariant-loop-rank : goal.invariant-loop-rank
invariant-loop-rank v =
    record {
      grows : Grows v.initial.marks v.marks;
      covers : (r : ℕ) → r < v.rank → CoversTrip v.first v.boardings
          (λ j. slice_index (departures_in v.times) (r * v.positions + j)) v.marks (length v.boardings);
    }
