use Rattle.std.proofs.Common.{slice_index, refl}
use Rattle.label_cells.proofs.CellsOfLanes.{cell_in_lane}
use Rattle.label_cells.proofs.selection.cells_of_rank.Goals as goal

pub returns-clause-cells : goal.returns-clause-cells
returns-clause-cells c l minutes ds h are =
    cell_in_lane ds minutes (slice_index c.args.summary.low l) c.args.rank l _ are.shortest are.span c.args.rows.now
    are.runs are.split refl (slice_index c.select.result l) (c.select.ensures.selected l h)
