use Rattle.std.proofs.Common.{arith}
use Rattle.trip_lanes.proofs.VectorChoices.{smaller_at}
use Rattle.label_cells.proofs.splitting.lower_of.Goals as goal
use mir.Syntax.{w16}

pub returns : goal.returns
returns c l h = smaller_at w16 16 c.args.one c.args.other l h (omega arith) (omega arith)
