use Rattle.std.proofs.Common.{◌+◌, arith}
use Rattle.trip_lanes.proofs.LanesSideBySide.{fell_in_either}
use Rattle.trip_lanes.proofs.forty_eight.FortyEightLaneLabels.changed.Goals as goal

pub changed-requires : goal.changed-requires
changed-requires c l h =
    let no_higher = c.requires l (omega (arith, h)) in
    omega (arith, no_higher, c.front_of.ensures l h, c.front_of-2.ensures l h)

pub changed-requires-2 : goal.changed-requires-2
changed-requires-2 c l h =
    let no_higher = c.requires (32 + l) (omega (arith, h)) in
    omega (arith, no_higher, c.back_of.ensures l h, c.back_of-2.ensures l h)

pub returns : goal.returns
returns c =
    fell_in_either 32 16 c.args.self _ _ c.args.old _ _ _ _ c.front_of.ensures c.back_of.ensures c.front_of-2.ensures
    c.back_of-2.ensures c.changed.ensures c.changed-2.ensures
