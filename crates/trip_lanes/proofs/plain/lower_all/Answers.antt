use Rattle.std.proofs.Common.{◌<◌, length, arith, slice_index}
use Rattle.std.proofs.lemmas.List.{map-set, length-map}
use Rattle.trip_lanes.specs.Lane.{lane}
use Rattle.trip_lanes.proofs.LoweredStop.{lowers_set, lane_old}
use Rattle.trip_lanes.proofs.plain.lower_all.Goals as goal

pub returns : goal.returns
returns c l h =
    let xs = c.args.labels.now in
    let old = lane_old xs c.args.stop l c.requires in
    let long : c.args.stop < length (lane l xs) = omega (arith, length-map xs (λ w. slice_index w l), c.requires) in
    rw (map-set (λ w. slice_index w l) xs c.args.stop c.lower_of-lowered.result, c.lower_of-lowered.ensures l h, ← old)
    (lowers_set (lane l xs) c.args.stop (slice_index c.args.times l) long)
