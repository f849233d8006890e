use Rattle.std.proofs.Common.{arith}
use Rattle.trip_lanes.proofs.VectorChoices.{higher_at}
use Rattle.label_cells.proofs.split_runs.higher_of.Goals as goal
use mir.Syntax.{w16}

pub returns : goal.returns
returns c l h = higher_at w16 16 c.args.one c.args.other l h (omega arith) (omega arith)
