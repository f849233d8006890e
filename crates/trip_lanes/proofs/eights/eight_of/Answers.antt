use Rattle.std.proofs.Common.{◌*◌, arith}
use Rattle.trip_lanes.proofs.VectorParts.{lane_of}
use Rattle.trip_lanes.proofs.eights.eight_of.Goals as goal

pub returns : goal.returns
returns c l h = let here = lane_of 8 c.args.labels.now (8 * c.args.part) l (omega (arith, c.requires)) h in here.0
