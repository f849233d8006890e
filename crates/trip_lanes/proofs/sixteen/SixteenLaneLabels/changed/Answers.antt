use Rattle.std.proofs.Common.{arith}
use Rattle.trip_lanes.proofs.VectorChoices.{any_other}
use Rattle.trip_lanes.proofs.sixteen.SixteenLaneLabels.changed.Goals as goal
use mir.Syntax.{w16}

pub returns : goal.returns
returns c = any_other w16 16 (omega arith) c.args.self c.args.old (omega arith) (omega arith) c.requires
