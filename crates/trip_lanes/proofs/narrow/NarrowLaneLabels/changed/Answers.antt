use Rattle.std.proofs.Common.{arith}
use Rattle.trip_lanes.proofs.VectorChoices.{any_other}
use Rattle.trip_lanes.proofs.narrow.NarrowLaneLabels.changed.Goals as goal
use mir.Syntax.{w16}

pub returns : goal.returns
returns c = any_other w16 32 (omega arith) c.args.self c.args.old (omega arith) (omega arith) c.requires
