use Rattle.std.proofs.Common.{arith}
use Rattle.trip_lanes.proofs.ChoicesInOneLane.{caught_at, missed_at}
use Rattle.trip_lanes.proofs.sixteen.SixteenLaneLabels.catch.Goals as goal
use mir.Syntax.{w16}

pub returns-clause-caught : goal.returns-clause-caught
returns-clause-caught c l h soon = caught_at w16 16 c.args.self c.args.depart c.args.rank 65535 l h (omega arith) soon

pub returns-clause-others : goal.returns-clause-others
returns-clause-others c l h late = missed_at w16 16 c.args.self c.args.depart c.args.rank 65535 l h (omega arith) late
