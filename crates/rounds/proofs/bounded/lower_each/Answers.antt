use Rattle.std.proofs.Common.{◌≤◌, length, slice_index, refl, arith}
use Rattle.std.proofs.lemmas.List.{length-map}
use Rattle.timetable.proofs.LowersCompose.{lowers_alike_in}
use Rattle.trip_lanes.specs.Lane.{lane, labels_in}
use Rattle.rounds.proofs.BoundedStops.{one_more_bound}
use Rattle.rounds.proofs.LabelTables.{fits_after}
use Rattle.rounds.proofs.bounded.lower_each.Goals as goal

pub lower_one-requires-clause-fits : goal.lower_one-requires-clause-fits
lower_one-requires-clause-fits g c l h =
    let rows = labels_in g.R.LaneLabels.labels in
    fits_after g.R.LaneLabels.NEVER (lane l (rows c.args.labels.now)) (lane l (rows c.loop-stop.labels))
    (λ p. c.requires.fits l p h) (c.loop-stop.invariant l h) c.loop-stop.stop

pub loop-stop-preserved : goal.loop-stop-preserved
loop-stop-preserved g c l h =
    let bounds = c.args.bounds.now in
    let stop = c.loop-stop.stop in
    one_more_bound c.args.base g.R.LaneLabels.NEVER bounds stop (slice_index bounds stop) (omega arith) refl
    (c.loop-stop.invariant l h) (c.lower_one.ensures l h)

pub returns : goal.returns
returns g c l h =
    let rows = c.args.labels.now in
    let long = length-map (labels_in g.R.LaneLabels.labels rows) (λ w. slice_index w l) in
    let rows_long = length-map rows g.R.LaneLabels.labels in
    let end : length rows ≤ c.loop-stop.stop = omega arith in
    lowers_alike_in (λ p x m o. o.1) (λ p x m o. (omega arith, o)) (c.loop-stop.invariant l h)
