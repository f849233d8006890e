use Rattle.std.proofs.Common.{arith}
use Rattle.trip_lanes.proofs.VectorParts.{lane_of}
use Rattle.trip_lanes.proofs.forty_eight.back_of.Goals as goal

pub returns : goal.returns
returns c l h = let here = lane_of 16 c.args.labels 32 l (omega arith) h in here.0
