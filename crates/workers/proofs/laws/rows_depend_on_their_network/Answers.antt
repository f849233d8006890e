use Rattle.workers.proofs.Unique.{same_row}
use Rattle.workers.proofs.laws.rows_depend_on_their_network.Goals as goal

pub returns : goal.returns
returns c = same_row
