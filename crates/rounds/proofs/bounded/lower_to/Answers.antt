use Rattle.std.proofs.Common.{slice_index, arith}
use Rattle.std.proofs.lemmas.List.{length-map}
use Rattle.trip_lanes.specs.Cut.{cut}
use Rattle.trip_lanes.specs.Lane.{lane, labels_in}
use Rattle.rounds.specs.Batches.{as_labels}
use Rattle.rounds.proofs.UnboundedBatches.{unbounded_stay}
use Rattle.rounds.proofs.bounded.lower_to.Goals as goal

pub returns-else-bounded_by-ne-NEVER : goal.returns-else-bounded_by-ne-NEVER
returns-else-bounded_by-ne-NEVER g c l h =
    let never = g.R.LaneLabels.NEVER in
    let rows = labels_in g.R.LaneLabels.labels c.args.labels.now in
    let long = length-map rows (λ w. slice_index w l) in
    let rows_long = length-map c.args.labels.now g.R.LaneLabels.labels in
    let bounds_long = length-map c.args.bounds.now (cut c.args.base never) in
    unbounded_stay never (as_labels c.args.base never c.args.bounds.now) (lane l rows) (omega arith)
    (λ p. c.requires.fits l p h) (c.requires.unbounded (omega arith))
