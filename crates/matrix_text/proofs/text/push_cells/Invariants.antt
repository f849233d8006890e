use Rattle.std.proofs.Common.{◌≡◌, ◌++◌, map, take}
use Rattle.matrix_text.specs.Text.{cell_field}
use Rattle.matrix_text.proofs.text.push_cells.Given as goal

abbrev pub invariant-loop-cell : goal.invariant-loop-cell
invariant-loop-cell l = l.line ≡ l.fn.line ++ map cell_field (take l.cell-index l.cells)
