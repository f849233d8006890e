use Rattle.std.proofs.Common.{arith}
use Rattle.trip_lanes.proofs.VectorChoices.{any_other}
use Rattle.trip_lanes.proofs.wide.LanesLaneLabels.changed.Goals as goal
use mir.Syntax.{w32}

pub returns : goal.returns
returns c = any_other w32 16 (omega arith) c.args.self c.args.old (omega arith) (omega arith) c.requires
