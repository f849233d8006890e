use Rattle.std.proofs.Common.{arith}
use Rattle.trip_lanes.proofs.ChoicesInOneLane.{kept_at, marked_at}
use Rattle.trip_lanes.proofs.sixteen.ridden.Goals as goal
use mir.Syntax.{w16}

pub returns-clause-ranks : goal.returns-clause-ranks
returns-clause-ranks c l h some = kept_at w16 16 c.args.run 65535 0 c.args.run l h (omega arith) (omega arith) some

pub returns-clause-others : goal.returns-clause-others
returns-clause-others c l h none = marked_at w16 16 c.args.run 65535 0 c.args.run l h (omega arith) (omega arith) none
