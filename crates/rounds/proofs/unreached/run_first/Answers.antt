use Rattle.std.proofs.Common.{ℕ, refl, subst, ◌∙◌, arith}
use Rattle.timetable.specs.declared.least.TheConstants.{NEVER}
use Rattle.trip_lanes.specs.Lane.{lane, labels_in}
use Rattle.rounds.specs.Batches.{start_at}
use Rattle.rounds.specs.Cut.{cut_net}
use Rattle.rounds.specs.CappedLabels.{LaneStateTo}
use Rattle.rounds.proofs.LabelsOfBatch.{never_times}
use Rattle.rounds.proofs.unreached.run_first.Goals as goal

pub run_bounded-requires-clause-bounds : goal.run_bounded-requires-clause-bounds
run_bounded-requires-clause-bounds c =
    rw c.as_mut_slice.ensures.value (never_times c.args.query.network.now c.known.ensures 0 NEVER c.args.query.origin.0
    NEVER c.args.query.rides _ (rw c.stops.ensures at c.in_ok-rounds.ensures.never) (omega arith) refl)

pub returns-clause-state : goal.returns-clause-state
returns-clause-state c =
    let first = (c.minutely-departures.ensures 0 (omega arith)).live (omega arith) in
    let n = c.args.query.network.now in
    let ride = lane 0 (labels_in (λ row. row) c.run_bounded.new.workspace.ride.items) in
    let ready = lane 0 (labels_in (λ row. row) c.run_bounded.new.workspace.ready.labels.items) in
    subst (λ (t : ℕ). LaneStateTo NEVER (cut_net 0 NEVER n) (start_at c.args.query t) c.args.query.rides ride ready)
    (first ∙ omega arith) (c.run_bounded.ensures.labels 0 (omega arith))
