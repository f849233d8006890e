use Rattle.shares.proofs.CellsExist.{cells_there}
use Rattle.shares.proofs.CellsUnique.{cell_unique, cells_unique}
use Rattle.shares.proofs.laws.cells_are_unique.Goals as goal

pub returns-clause-cell : goal.returns-clause-cell
returns-clause-cell c = cell_unique

pub returns-clause-cells : goal.returns-clause-cells
returns-clause-cells c = cells_unique

pub returns-clause-there : goal.returns-clause-there
returns-clause-there c = cells_there
