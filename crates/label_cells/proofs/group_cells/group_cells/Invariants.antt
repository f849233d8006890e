use Rattle.label_cells.proofs.GroupCells.{AreCellsBefore}
use Rattle.label_cells.proofs.group_cells.group_cells.Given as goal

abbrev pub invariant-loop-group : goal.invariant-loop-group
invariant-loop-group v = AreCellsBefore v.window v.used v.ranks v.group v.cells.items
