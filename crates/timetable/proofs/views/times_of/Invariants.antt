use Rattle.std.proofs.Common.{◌≡◌, ℕ, List, length, All}
use Rattle.timetable.specs.declared.trips.Event.{Event}
use Rattle.timetable.specs.LineViews.{rows_of_line, AreTimes}
use Rattle.timetable.proofs.views.times_of.Given as goal

abbrev pub invariant-loop-trip : goal.invariant-loop-trip
invariant-loop-trip l = (positions : ℕ) → All (λ (row : List Event). length row ≡ positions)
    (rows_of_line l.trips l.line) →
    AreTimes l.trip-index positions (rows_of_line l.trips l.line) l.times.items
