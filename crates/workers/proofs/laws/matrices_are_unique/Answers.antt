use Rattle.workers.proofs.Unique.{matrix_unique}
use Rattle.workers.proofs.laws.matrices_are_unique.Goals as goal

pub returns : goal.returns
returns c = matrix_unique
