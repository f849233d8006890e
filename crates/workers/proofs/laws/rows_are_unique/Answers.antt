use Rattle.workers.proofs.Unique.{row_unique}
use Rattle.workers.proofs.laws.rows_are_unique.Goals as goal

pub returns : goal.returns
returns c = row_unique
