use Rattle.std.proofs.Common.{◌≡◌, slice_index, min, ap, ◌∙◌, arith}
use Rattle.std.proofs.lemmas.List.{length-map}
use Rattle.trip_lanes.specs.Cut.{cut}
use Rattle.trip_lanes.specs.Lane.{lane, labels_in}
use Rattle.rounds.proofs.BoundedStops.{row_lowered, stays}
use Rattle.rounds.proofs.bounded.lower_one.Goals as goal

pub returns-then-bound-ne-NEVER : goal.returns-then-bound-ne-NEVER
returns-then-bound-ne-NEVER g c l h =
    row_lowered g.R.LaneLabels.labels c.args.labels.now c.args.stop l c.index-labels-stop.result c.lower_of.result
    (cut c.args.base g.R.LaneLabels.NEVER c.args.bound) c.index-labels-stop.is (omega arith)
    (c.lower_of.ensures l h
    ∙ ap (min (slice_index (g.R.LaneLabels.labels c.index-labels-stop.result) l)) (c.as_label.ensures l h))

pub returns-else-bound-ne-NEVER : goal.returns-else-bound-ne-NEVER
returns-else-bound-ne-NEVER g c l h =
    let rows = c.args.labels.now in
    let fits = c.requires.fits l h in
    let long = length-map (labels_in g.R.LaneLabels.labels rows) (λ r. slice_index r l) in
    let rows_long = length-map rows g.R.LaneLabels.labels in
    let same : cut c.args.base g.R.LaneLabels.NEVER c.args.bound ≡ g.R.LaneLabels.NEVER = omega arith in
    stays (lane l (labels_in g.R.LaneLabels.labels rows)) c.args.stop
    (cut c.args.base g.R.LaneLabels.NEVER c.args.bound)
    (omega arith) (omega arith)
