use Rattle.std.proofs.Common.{arith}
use Rattle.trip_lanes.proofs.VectorChoices.{alights_at}
use Rattle.trip_lanes.proofs.plain.alight.Goals as goal
use mir.Syntax.{w32}

pub returns : goal.returns
returns c l h = alights_at w32 16 c.args.old c.args.bar c.args.arrive l h (omega arith) (omega arith)
