use Rattle.std.proofs.Common.{arith}
use Rattle.trip_lanes.proofs.ChoicesInOneLane.{kept_at, marked_at}
use Rattle.trip_lanes.proofs.wide.ridden.Goals as goal
use mir.Syntax.{w32}

pub returns-clause-ranks : goal.returns-clause-ranks
returns-clause-ranks c l h some = kept_at w32 16 c.args.run 4294967295 0 c.args.run l h (omega arith) (omega arith) some

pub returns-clause-others : goal.returns-clause-others
returns-clause-others c l h none = marked_at w32 16 c.args.run 4294967295 0 c.args.run l h (omega arith) (omega arith)
    none
