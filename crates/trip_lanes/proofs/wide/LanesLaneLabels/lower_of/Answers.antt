use Rattle.std.proofs.Common.{arith}
use Rattle.trip_lanes.proofs.VectorChoices.{smaller_at}
use Rattle.trip_lanes.proofs.wide.LanesLaneLabels.lower_of.Goals as goal
use mir.Syntax.{w32}

pub returns : goal.returns
returns c l h = smaller_at w32 16 c.args.self c.args.other l h (omega arith) (omega arith)
