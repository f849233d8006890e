use Rattle.timetable.specs.Footpaths.{rows_of}
use Rattle.timetable.specs.Numbering.{number_in}
use Rattle.timetable.specs.Renumbering.{AreRenumberedRows}
use Rattle.timetable.proofs.footpaths.renumbered_rows.Given as goal

abbrev pub invariant-loop-stop : goal.invariant-loop-stop
invariant-loop-stop l =
    AreRenumberedRows (number_in l.numbering.numbers.items) l.numbering.order.items (rows_of l.lists) l.stop-index
    (rows_of l.rows.items)
