use Rattle.std.proofs.Common.{◌≡◌, map, take}
use Rattle.timetable.specs.Numbering.{number_in}
use Rattle.timetable.specs.Renumbering.{renumbered_walk}
use Rattle.timetable.proofs.footpaths.renumbered_row.Given as goal

abbrev pub invariant-loop-to : goal.invariant-loop-to
invariant-loop-to l = l.renumbered.items ≡ map (renumbered_walk (number_in l.numbers)) (take l.to-index l.row)
