use Rattle.std.proofs.Common.{arith}
use Rattle.trip_lanes.proofs.VectorChoices.{any_lower}
use Rattle.trip_lanes.proofs.plain.fell.Goals as goal
use mir.Syntax.{w32}

pub returns : goal.returns
returns c = any_lower w32 16 (omega arith) c.args.new c.args.old (omega arith) (omega arith)
