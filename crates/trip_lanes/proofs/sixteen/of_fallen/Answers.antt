use Rattle.std.proofs.Common.{arith}
use Rattle.trip_lanes.proofs.ChoicesInOneLane.{fallen_at}
use Rattle.trip_lanes.proofs.sixteen.of_fallen.Goals as goal
use mir.Syntax.{w16}

pub returns : goal.returns
returns c l h fell = fallen_at w16 16 c.args.before c.args.ready c.args.labels c.args.other l h (omega arith)
    (omega arith) (omega arith) fell
