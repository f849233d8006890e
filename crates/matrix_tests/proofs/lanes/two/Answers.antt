use Rattle.matrix_tests.proofs.Reached.{two_lanes}
use Rattle.matrix_tests.proofs.lanes.two.Goals as goal

pub returns : goal.returns
returns c l h = two_lanes c.args.first c.args.second l h
