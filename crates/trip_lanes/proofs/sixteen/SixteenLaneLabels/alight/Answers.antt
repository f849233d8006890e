use Rattle.std.proofs.Common.{arith}
use Rattle.trip_lanes.proofs.ChoicesInOneLane.{kept_at, marked_at}
use Rattle.trip_lanes.proofs.sixteen.SixteenLaneLabels.alight.Goals as goal
use mir.Syntax.{w16}

pub returns-clause-rides : goal.returns-clause-rides
returns-clause-rides c l h same = marked_at w16 16 c.args.run c.args.rank c.args.arrive c.args.self l h (omega arith)
    (omega arith) same

pub returns-clause-others : goal.returns-clause-others
returns-clause-others c l h other = kept_at w16 16 c.args.run c.args.rank c.args.arrive c.args.self l h (omega arith)
    (omega arith) other
