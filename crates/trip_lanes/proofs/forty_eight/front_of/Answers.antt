use Rattle.std.proofs.Common.{◌≡◌, ◌+◌, arith, refl, ◌∙◌}
use Rattle.trip_lanes.proofs.VectorParts.{lane_of}
use Rattle.trip_lanes.proofs.forty_eight.front_of.Goals as goal

pub returns : goal.returns
returns c l h =
    let here = lane_of 32 c.args.labels 0 l (omega arith) h in
    let place : 0 + l ≡ l = omega arith in
    here.0 ∙ rw place refl
