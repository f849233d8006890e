use Rattle.std.proofs.Common.{◌<◌, length, arith, slice_index}
use Rattle.std.proofs.lemmas.List.{map-set, length-map}
use Rattle.trip_lanes.specs.Lane.{lane, labels_in}
use Rattle.trip_lanes.proofs.LoweredStop.{lowers_set, marks_either, row_labels, row_lane}
use Rattle.trip_lanes.proofs.kernels.lower_from.Goals as goal

pub returns-clause-lanes : goal.returns-clause-lanes
returns-clause-lanes g c l h =
    let labels = g.R.LaneLabels.labels in
    let xs = labels_in labels c.args.labels.now in
    let row = c.args.row in
    let read = row_lane labels c.args.labels.now c.args.stop l row row c.requires.row c.requires.stop in
    let long : c.args.stop < length (lane l xs) =
    omega (arith, length-map xs (λ w. slice_index w l), length-map c.args.labels.now labels, c.requires.stop) in
    rw (
      map-set labels c.args.labels.now c.args.stop c.lower_of-new.result,
      map-set (λ w. slice_index w l) xs c.args.stop (labels c.lower_of-new.result),
      c.lower_of-new.ensures l h,
      ← read,
    )
    (lowers_set (lane l xs) c.args.stop (slice_index (labels c.args.times) l) long)

pub returns-clause-marks : goal.returns-clause-marks
returns-clause-marks g c =
    let labels = g.R.LaneLabels.labels in
    let xs = labels_in labels c.args.labels.now in
    let row = c.args.row in
    let read = row_labels labels c.args.labels.now c.args.stop row row c.requires.row c.requires.stop in
    let long = length-map c.args.labels.now labels in
    rw (map-set labels c.args.labels.now c.args.stop c.lower_of-new.result)
    (marks_either xs (labels c.lower_of-new.result) c.args.stop c.args.marked.now c.changed.result
    (omega (arith, long, c.requires.stop)) (omega (arith, long, c.requires.same)) (rw read c.changed.ensures))
