use Rattle.std.proofs.Common.{◌+◌, ◌∙◌}
use Rattle.trip_lanes.proofs.VectorParts.{lane_of}
use Rattle.useful_minutes.proofs.counted.taken.Goals as goal

pub returns-clause-takes : goal.returns-clause-takes
returns-clause-takes c l k lt kt takes =
    let at = c.args.from + c.args.source.at in
    c.eight_in_order.ensures.takes l k lt kt takes
    ∙ (lane_of 8 c.args.labels.now at k c.requires.at kt).0
