use Rattle.label_cells.proofs.BothWays.{labels_give, share_cells_unique}
use Rattle.label_cells.proofs.laws.labels_give_the_cells_of_durations.Goals as goal

pub returns-clause-cells : goal.returns-clause-cells
returns-clause-cells c = labels_give

pub returns-clause-unique : goal.returns-clause-unique
returns-clause-unique c = share_cells_unique
