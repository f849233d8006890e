use Rattle.std.proofs.Common.{sym, ◌∙◌, slice_index}
use Rattle.std.proofs.lemmas.Bool.{false≢true}
use Rattle.trip_lanes.proofs.LoweredStop.{lower_lane, marks_fell, marks_same, lane_old}
use Rattle.trip_lanes.proofs.plain.lower_lanes.Goals as goal

pub returns-then-fell-clause-lanes : goal.returns-then-fell-clause-lanes
returns-then-fell-clause-lanes c l h =
    let xs = c.args.ride.now in
    let old = lane_old xs c.args.stop l c.requires.stop in
    lower_lane xs c.alight-new.result c.args.stop l (slice_index c.args.bar l) c.args.arrive c.requires.stop
    (c.requires.bar l h) (c.requires.fits l h) (rw old (c.alight-new.ensures l h))

pub returns-else-fell-clause-lanes : goal.returns-else-fell-clause-lanes
returns-else-fell-clause-lanes c l h =
    let xs = c.args.ride.now in
    let old = lane_old xs c.args.stop l c.requires.stop in
    lower_lane xs c.alight-new.result c.args.stop l (slice_index c.args.bar l) c.args.arrive c.requires.stop
    (c.requires.bar l h) (c.requires.fits l h) (rw old (c.alight-new.ensures l h))

pub returns-then-fell-clause-marks : goal.returns-then-fell-clause-marks
returns-then-fell-clause-marks c =
    marks_fell c.args.ride.now c.alight-new.result c.args.stop c.args.marked.now c.requires.stop c.requires.same
    (c.fell.ensures.0 c.if-fell.true)

pub returns-else-fell-clause-marks : goal.returns-else-fell-clause-marks
returns-else-fell-clause-marks c =
    marks_same c.args.ride.now c.alight-new.result c.args.stop c.args.marked.now c.requires.stop
    (λ f. false≢true (sym c.if-fell.false ∙ c.fell.ensures.1 f))
