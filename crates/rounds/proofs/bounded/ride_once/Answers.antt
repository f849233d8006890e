use Rattle.std.proofs.Common.{rules, ◌≡◌, ◌<◌, ◌≤◌, ◌+◌, inl, inr, ℕ, List, Bool, length, slice_index, get_or, ap, refl}
use Rattle.std.proofs.Common.{sym, ◌∙◌, arith}
use Rattle.std.proofs.lemmas.Bool.{cases_lt}
use Rattle.std.proofs.lemmas.Option.{same_Some, slice_get-get_or}
use Rattle.timetable.specs.Footpaths.{FeetData}
use Rattle.timetable.specs.Networks.{Net}
use Rattle.timetable.specs.Journeys.{Whereabouts}
use Rattle.timetable.specs.declared.least.TheConstants.{NEVER}
use Rattle.timetable.proofs.ListsAddedTo.{set_same, set_other}
use Rattle.trip_lanes.specs.Cut.{cut}
use Rattle.trip_lanes.specs.Lane.{lane, labels_in}
use Rattle.trip_lanes.proofs.TripInOneLane.{lane_falls}
use Rattle.trip_lanes.proofs.UnmarkedStops.{unmarked_still}
use Rattle.rounds.specs.declared.bounded.RoundTimes.{RoundTimes}
use Rattle.rounds.specs.Batches.{start_at, as_labels}
use Rattle.rounds.specs.Cut.{cut_net}
use Rattle.rounds.specs.CappedLabels.{LaneStateTo}
use Rattle.rounds.specs.Rounds.{IsSettled}
use Rattle.rounds.proofs.BoundedStops.{none_noted, times_long, written, written_long}
use Rattle.rounds.proofs.CutNetworks.{cut_net_is_net}
use Rattle.rounds.proofs.LabelTables.{fits_after}
use Rattle.rounds.proofs.LabelStates.{bounded_next}
use Rattle.rounds.proofs.LaneRounds.{round_settled, round_walks}
use Rattle.rounds.proofs.LinesByRank.{boarded_line}
use Rattle.rounds.proofs.UnboundedBatches.{none_bound}
use Rattle.rounds.proofs.bounded.ride_once.Goals as goal

-- what the labels of a lane say, of lists by other names
state_of : {never k : ℕ} {n : Net} {o : Whereabouts} {R : Type 0} {ride ready new_ride new_ready : List R} (l : ℕ)
    (labels : R → List ℕ) → new_ride ≡ ride → new_ready ≡ ready →
    LaneStateTo never n o k (lane l (labels_in labels ride)) (lane l (labels_in labels ready)) →
    LaneStateTo never n o k (lane l (labels_in labels new_ride)) (lane l (labels_in labels new_ready))
state_of l labels e f s = rw (e, f) s

settled_of : {never k : ℕ} {n : Net} {o : Whereabouts} {R : Type 0}
    {ride ready before new_ride new_ready new_before : List R} {fallen new_fallen : List Bool} (l : ℕ)
    (labels : R → List ℕ) → new_ride ≡ ride → new_ready ≡ ready → new_before ≡ before → new_fallen ≡ fallen →
    IsSettled never n o k (lane l (labels_in labels ride)) (lane l (labels_in labels ready))
    (lane l (labels_in labels before)) fallen →
    IsSettled never n o k (lane l (labels_in labels new_ride)) (lane l (labels_in labels new_ready))
    (lane l (labels_in labels new_before)) new_fallen
settled_of l labels e f i j s = rw (e, f, i, j) s

pub lower_to-requires-clause-same : goal.lower_to-requires-clause-same
lower_to-requires-clause-same g c =
    let never = g.R.LaneLabels.NEVER in
    let base = c.args.batch.base in
    let n = c.args.query.network.now in
    let later = start_at c.args.query (cut base never c.args.batch.bounded_by) in
    let k = c.args.rides in
    let was = c.args.rounds.now in
    let x = get_or was (k + 1) c.index-rounds-rides.result in
    let long = times_long base never (k + 1) n later x
    (c.requires.times.bounds (k + 1) x (omega arith) (omega arith)
    (slice_get-get_or was (k + 1) c.index-rounds-rides.result (omega (arith, c.requires.times.count)))) in
    omega (
      arith,
      long.0,
      ap length c.as_slice.ensures.value,
      (ap length c.as_mut_slice-ride.ensures.value ∙ c.requires.workspace.ride),
    )

pub lower_to-requires-clause-fits : goal.lower_to-requires-clause-fits
lower_to-requires-clause-fits g c l p h =
    (state_of l g.R.LaneLabels.labels c.as_mut_slice-ride.ensures.value c.as_mut_slice-ready.ensures.value
    (c.requires.labels.states l h)).ride_fits p

pub lower_to-requires-clause-unbounded : goal.lower_to-requires-clause-unbounded
lower_to-requires-clause-unbounded g c none =
    let never = g.R.LaneLabels.NEVER in
    let base = c.args.batch.base in
    let k = c.args.rides in
    let x = get_or c.args.rounds.now (k + 1) c.index-rounds-rides.result in
    let bound = c.requires.times.bounds (k + 1) x (omega arith) (omega arith)
    (slice_get-get_or c.args.rounds.now (k + 1) c.index-rounds-rides.result (omega (arith, c.requires.times.count))) in
    rw c.as_slice.ensures.value ((none_bound c.args.query.network.now c.known.ensures base never
    c.args.query.origin.0 c.args.batch.bounded_by (k + 1) (as_labels base never x.ride.items)
    (as_labels base never x.ready.items) (omega (arith, g.met.R.LaneLabels.room)) c.requires.batch.base
    none bound).0)

pub note_falls-requires-clause-stops : goal.note_falls-requires-clause-stops
note_falls-requires-clause-stops g c =
    omega (
      arith,
      ap length c.as_mut_slice-ready.ensures.value,
      c.requires.workspace.ready,
      c.requires.query.lines.boarded.size,
    )

pub note_falls-requires-clause-in_range : goal.note_falls-requires-clause-in_range
note_falls-requires-clause-in_range g c p line position b =
    let r = boarded_line c.args.query.network.now.stops c.args.query.network.now.trips c.args.query.lines.now
    c.requires.query.lines p line position b in
    omega (arith, r, ap length c.as_mut_slice-due.ensures.value, c.requires.workspace.due)

pub scan_lines-requires-clause-fits : goal.scan_lines-requires-clause-fits
scan_lines-requires-clause-fits g c l p h =
    let rows = labels_in g.R.LaneLabels.labels in
    fits_after g.R.LaneLabels.NEVER (lane l (rows c.as_mut_slice-ride.result.now)) (lane l (rows c.lower_to.new.labels))
    (state_of l g.R.LaneLabels.labels c.as_mut_slice-ride.ensures.value c.as_mut_slice-ready.ensures.value
    (c.requires.labels.states l h)).ride_fits (c.lower_to.ensures l h) p

pub scan_lines-requires-clause-before : goal.scan_lines-requires-clause-before
scan_lines-requires-clause-before g c l h =
    let rows = labels_in g.R.LaneLabels.labels in
    let x = get_or c.args.rounds.now (c.args.rides + 1) c.index-rounds-rides.result in
    let bound = c.requires.times.bounds (c.args.rides + 1) x (omega arith) (omega arith)
    (slice_get-get_or c.args.rounds.now (c.args.rides + 1) c.index-rounds-rides.result
    (omega (arith, c.requires.times.count))) in
    let settled = settled_of l g.R.LaneLabels.labels c.as_mut_slice-ride.ensures.value
    c.as_mut_slice-ready.ensures.value c.as_mut_slice-before.ensures.value c.as_mut_slice-fallen.ensures.value
    (c.requires.labels.settled l h) in
    record {
      before = settled.was;
      fell = c.note_falls.ensures.falls l settled.was h settled.noted;
      settled = λ p y within o. settled.settled (as_labels c.args.batch.base g.R.LaneLabels.NEVER x.ride.items)
          (as_labels c.args.batch.base g.R.LaneLabels.NEVER x.ready.items) (lane l (rows c.lower_to.new.labels)) o.trip
          o.t bound (rw c.as_slice.ensures.value at (c.lower_to.ensures l h)) (rw c.trips.ensures at o.runs) p y within
          o.carries;
    }

pub bound_ready-requires-clause-same : goal.bound_ready-requires-clause-same
bound_ready-requires-clause-same g c =
    let never = g.R.LaneLabels.NEVER in
    let base = c.args.batch.base in
    let n = c.args.query.network.now in
    let later = start_at c.args.query (cut base never c.args.batch.bounded_by) in
    let k = c.args.rides in
    let was = c.args.rounds.now in
    let x = get_or was (k + 1) c.index-rounds-rides.result in
    let long = times_long base never (k + 1) n later x
    (c.requires.times.bounds (k + 1) x (omega arith) (omega arith)
    (slice_get-get_or was (k + 1) c.index-rounds-rides.result (omega (arith, c.requires.times.count)))) in
    omega (
      arith,
      long.1,
      ap length c.as_slice-2.ensures.value,
      (ap length c.as_mut_slice-ready.ensures.value ∙ c.requires.workspace.ready),
    )

pub bound_ready-requires-clause-unbounded : goal.bound_ready-requires-clause-unbounded
bound_ready-requires-clause-unbounded g c none =
    let never = g.R.LaneLabels.NEVER in
    let base = c.args.batch.base in
    let k = c.args.rides in
    let x = get_or c.args.rounds.now (k + 1) c.index-rounds-rides.result in
    let bound = c.requires.times.bounds (k + 1) x (omega arith) (omega arith)
    (slice_get-get_or c.args.rounds.now (k + 1) c.index-rounds-rides.result (omega (arith, c.requires.times.count))) in
    rw c.as_slice-2.ensures.value ((none_bound c.args.query.network.now c.known.ensures base never
    c.args.query.origin.0 c.args.batch.bounded_by (k + 1) (as_labels base never x.ride.items)
    (as_labels base never x.ready.items) (omega (arith, g.met.R.LaneLabels.room)) c.requires.batch.base
    none bound).1)

pub bound_ready-requires-clause-fits : goal.bound_ready-requires-clause-fits
bound_ready-requires-clause-fits g c l p h =
    (state_of l g.R.LaneLabels.labels c.as_mut_slice-ride.ensures.value c.as_mut_slice-ready.ensures.value
    (c.requires.labels.states l h)).ready_fits p

pub transfer_marked-requires-clause-fits : goal.transfer_marked-requires-clause-fits
transfer_marked-requires-clause-fits g c l p h =
    let rows = labels_in g.R.LaneLabels.labels in
    fits_after g.R.LaneLabels.NEVER (lane l (rows c.as_mut_slice-ready.result.now))
    (lane l (rows c.bound_ready.new.labels))
    (state_of l g.R.LaneLabels.labels c.as_mut_slice-ride.ensures.value c.as_mut_slice-ready.ensures.value
    (c.requires.labels.states l h)).ready_fits (c.bound_ready.ensures.lanes l h) p

pub transfer_marked-requires-clause-settled : goal.transfer_marked-requires-clause-settled
transfer_marked-requires-clause-settled g c l x h within none =
    let never = g.R.LaneLabels.NEVER in
    let base = c.args.batch.base in
    let rows = labels_in g.R.LaneLabels.labels in
    let n = c.args.query.network.now in
    let ok = cut_net_is_net base never n c.known.ensures in
    let k = c.args.rides in
    let later = start_at c.args.query (cut base never c.args.batch.bounded_by) in
    let o = start_at c.args.query (slice_index (g.R.LaneLabels.labels c.args.batch.departures) l) in
    let bound = c.requires.times.bounds (k + 1) (get_or c.args.rounds.now (c.args.rides + 1) c.index-rounds-rides.result)
    (omega arith) (omega arith) (slice_get-get_or c.args.rounds.now (c.args.rides + 1) c.index-rounds-rides.result
    (omega (arith, c.requires.times.count))) in
    let lowered = rows c.lower_to.new.labels in
    let ridden = rows c.scan_lines.new.ride in
    let there : x < n.stops =
    omega (arith, within, ap (λ (f : FeetData). length f.walks) c.feet.ensures, c.known.ensures.in_range.lists) in
    let falls = lane_falls (lane l lowered) (lane l ridden) (c.scan_lines.ensures.lanes l h) x in
    let marks_long : length c.fill.new.self ≡ n.stops =
    c.fill.ensures.len ∙ (ap length c.as_mut_slice-marked.ensures.value ∙ c.requires.workspace.marked) in
    let still = unmarked_still lowered ridden c.fill.new.self c.scan_lines.new.marked x l c.scan_lines.ensures.marks
    (omega (arith, there, marks_long)) none h falls in
    rw c.feet.ensures (round_walks never (cut_net base never n) ok later o k
    (lane l (rows c.as_mut_slice-ride.result.now))
    (lane l (rows c.as_mut_slice-ready.result.now)) (lane l lowered) (lane l ridden)
    (lane l (rows c.bound_ready.new.labels))
    (as_labels base never (get_or c.args.rounds.now (c.args.rides + 1) c.index-rounds-rides.result).ride.items)
    (as_labels base never (get_or c.args.rounds.now (c.args.rides + 1) c.index-rounds-rides.result).ready.items)
    (state_of l g.R.LaneLabels.labels c.as_mut_slice-ride.ensures.value c.as_mut_slice-ready.ensures.value
    (c.requires.labels.states l h)) bound (rw c.as_slice.ensures.value at (c.lower_to.ensures l h))
    (rw c.as_slice-2.ensures.value at (c.bound_ready.ensures.lanes l h)) x there still)

pub save_both-requires-clause-ride : goal.save_both-requires-clause-ride
save_both-requires-clause-ride g c =
    let never = g.R.LaneLabels.NEVER in
    let base = c.args.batch.base in
    let n = c.args.query.network.now in
    let later = start_at c.args.query (cut base never c.args.batch.bounded_by) in
    let k = c.args.rides in
    let was = c.args.rounds.now in
    let x = get_or was (k + 1) c.index-rounds-rides.result in
    let long = times_long base never (k + 1) n later x
    (c.requires.times.bounds (k + 1) x (omega arith) (omega arith)
    (slice_get-get_or was (k + 1) c.index-rounds-rides.result (omega (arith, c.requires.times.count)))) in
    omega (
      arith,
      long.0,
      ap (λ (y : RoundTimes). length y.ride.items) c.index-rounds-rides.is,
      c.lower_to.auto.labels,
      c.scan_lines.auto.ride,
      (ap length c.as_mut_slice-ride.ensures.value ∙ c.requires.workspace.ride),
    )

pub save_both-requires-clause-ready : goal.save_both-requires-clause-ready
save_both-requires-clause-ready g c =
    let never = g.R.LaneLabels.NEVER in
    let base = c.args.batch.base in
    let n = c.args.query.network.now in
    let later = start_at c.args.query (cut base never c.args.batch.bounded_by) in
    let k = c.args.rides in
    let was = c.args.rounds.now in
    let x = get_or was (k + 1) c.index-rounds-rides.result in
    let long = times_long base never (k + 1) n later x
    (c.requires.times.bounds (k + 1) x (omega arith) (omega arith)
    (slice_get-get_or was (k + 1) c.index-rounds-rides.result (omega (arith, c.requires.times.count)))) in
    omega (
      arith,
      long.1,
      ap (λ (y : RoundTimes). length y.ready.items) c.index-rounds-rides.is,
      c.bound_ready.auto.labels,
      c.transfer_marked.auto.ready,
      (ap length c.as_mut_slice-ready.ensures.value ∙ c.requires.workspace.ready),
    )

pub save_both-requires-clause-ride_fits : goal.save_both-requires-clause-ride_fits
save_both-requires-clause-ride_fits g c p =
    let never = g.R.LaneLabels.NEVER in
    let rows = labels_in g.R.LaneLabels.labels in
    let some : 0 < g.R.LaneLabels.LANES = omega (arith, g.met.R.LaneLabels.some) in
    fits_after never (lane 0 (rows c.lower_to.new.labels)) (lane 0 (rows c.scan_lines.new.ride))
    (fits_after never (lane 0 (rows c.as_mut_slice-ride.result.now)) (lane 0 (rows c.lower_to.new.labels))
    (state_of 0 g.R.LaneLabels.labels c.as_mut_slice-ride.ensures.value c.as_mut_slice-ready.ensures.value
    (c.requires.labels.states 0 some)).ride_fits (c.lower_to.ensures 0 some))
    (c.scan_lines.ensures.lanes 0 some) p

pub save_both-requires-clause-ready_fits : goal.save_both-requires-clause-ready_fits
save_both-requires-clause-ready_fits g c p =
    let never = g.R.LaneLabels.NEVER in
    let rows = labels_in g.R.LaneLabels.labels in
    let some : 0 < g.R.LaneLabels.LANES = omega (arith, g.met.R.LaneLabels.some) in
    fits_after never (lane 0 (rows c.bound_ready.new.labels)) (lane 0 (rows c.transfer_marked.new.ready))
    (fits_after never (lane 0 (rows c.as_mut_slice-ready.result.now)) (lane 0 (rows c.bound_ready.new.labels))
    (state_of 0 g.R.LaneLabels.labels c.as_mut_slice-ride.ensures.value c.as_mut_slice-ready.ensures.value
    (c.requires.labels.states 0 some)).ready_fits (c.bound_ready.ensures.lanes 0 some))
    (c.transfer_marked.ensures.lanes 0 some) p

pub returns-clause-workspace : goal.returns-clause-workspace
returns-clause-workspace g c =
    let t = c.args.workspace.now in
    let stops = c.args.query.network.now.stops in
    let ride : length c.scan_lines.new.ride ≡ stops =
    c.scan_lines.auto.ride ∙ (c.lower_to.auto.labels
    ∙ (ap length c.as_mut_slice-ride.ensures.value ∙ c.requires.workspace.ride)) in
    let ready : length c.transfer_marked.new.ready ≡ stops =
    c.transfer_marked.auto.ready ∙ (c.bound_ready.auto.labels
    ∙ (ap length c.as_mut_slice-ready.ensures.value ∙ c.requires.workspace.ready)) in
    let before : length c.transfer_marked.new.before ≡ stops + 1 =
    c.transfer_marked.auto.before ∙ (ap length c.as_mut_slice-before.ensures.value ∙ c.requires.workspace.before) in
    let falls : length c.note_falls.new.falls ≡ stops =
    c.note_falls.auto.falls ∙ (ap length c.as_mut_slice-falls.ensures.value ∙ c.requires.workspace.falls) in
    let marked : length c.scan_lines.new.marked ≡ stops =
    c.scan_lines.auto.marked ∙ (c.fill.ensures.len
    ∙ (ap length c.as_mut_slice-marked.ensures.value ∙ c.requires.workspace.marked)) in
    let fallen : length c.transfer_marked.new.fallen ≡ stops =
    c.transfer_marked.auto.fallen ∙ (c.bound_ready.auto.fallen
    ∙ (ap length c.as_mut_slice-fallen.ensures.value ∙ c.requires.workspace.fallen)) in
    let lines = length c.args.query.lines.now.lines in
    let due : length c.note_falls.new.due ≡ lines =
    c.note_falls.auto.due ∙ (ap length c.as_mut_slice-due.ensures.value ∙ c.requires.workspace.due) in
    record {
      ride = written_long t.ride c.scan_lines.new.ride c.requires.workspace.ride
          c.as_mut_slice-ride.ensures.value c.as_mut_slice-ride.ensures.len ride;
      ready = written_long t.ready.labels c.transfer_marked.new.ready c.requires.workspace.ready
          c.as_mut_slice-ready.ensures.value c.as_mut_slice-ready.ensures.len ready;
      before = written_long t.ready.before c.transfer_marked.new.before c.requires.workspace.before
          c.as_mut_slice-before.ensures.value c.as_mut_slice-before.ensures.len before;
      falls = written_long t.falls c.note_falls.new.falls c.requires.workspace.falls
          c.as_mut_slice-falls.ensures.value c.as_mut_slice-falls.ensures.len falls;
      marked = written_long t.marked c.scan_lines.new.marked c.requires.workspace.marked
          c.as_mut_slice-marked.ensures.value c.as_mut_slice-marked.ensures.len marked;
      fallen = written_long t.ready.fallen c.transfer_marked.new.fallen c.requires.workspace.fallen
          c.as_mut_slice-fallen.ensures.value c.as_mut_slice-fallen.ensures.len fallen;
      due = written_long t.due c.note_falls.new.due c.requires.workspace.due
          c.as_mut_slice-due.ensures.value c.as_mut_slice-due.ensures.len due;
    }

pub returns-clause-labels : goal.returns-clause-labels
returns-clause-labels g c =
    let t = c.args.workspace.now in
    let stops = c.args.query.network.now.stops in
    let ride : length c.scan_lines.new.ride ≡ stops =
    c.scan_lines.auto.ride ∙ (c.lower_to.auto.labels
    ∙ (ap length c.as_mut_slice-ride.ensures.value ∙ c.requires.workspace.ride)) in
    let ready : length c.transfer_marked.new.ready ≡ stops =
    c.transfer_marked.auto.ready ∙ (c.bound_ready.auto.labels
    ∙ (ap length c.as_mut_slice-ready.ensures.value ∙ c.requires.workspace.ready)) in
    let before : length c.transfer_marked.new.before ≡ stops + 1 =
    c.transfer_marked.auto.before ∙ (ap length c.as_mut_slice-before.ensures.value ∙ c.requires.workspace.before) in
    let falls : length c.note_falls.new.falls ≡ stops =
    c.note_falls.auto.falls ∙ (ap length c.as_mut_slice-falls.ensures.value ∙ c.requires.workspace.falls) in
    let marked : length c.scan_lines.new.marked ≡ stops =
    c.scan_lines.auto.marked ∙ (c.fill.ensures.len
    ∙ (ap length c.as_mut_slice-marked.ensures.value ∙ c.requires.workspace.marked)) in
    let fallen : length c.transfer_marked.new.fallen ≡ stops =
    c.transfer_marked.auto.fallen ∙ (c.bound_ready.auto.fallen
    ∙ (ap length c.as_mut_slice-fallen.ensures.value ∙ c.requires.workspace.fallen)) in
    let never = g.R.LaneLabels.NEVER in
    let base = c.args.batch.base in
    let rows = labels_in g.R.LaneLabels.labels in
    let n = c.args.query.network.now in
    let cn = cut_net base never n in
    let ok = cut_net_is_net base never n c.known.ensures in
    let limit : never ≤ NEVER = omega (arith, c.requires.batch.base) in
    let later = start_at c.args.query (cut base never c.args.batch.bounded_by) in
    let departures = g.R.LaneLabels.labels c.args.batch.departures in
    let some : 0 < g.R.LaneLabels.LANES = omega (arith, g.met.R.LaneLabels.some) in
    let k = c.args.rides in
    let was = c.args.rounds.now in
    let bound = c.requires.times.bounds (k + 1) (get_or c.args.rounds.now (c.args.rides + 1) c.index-rounds-rides.result)
    (omega arith) (omega arith) (slice_get-get_or c.args.rounds.now (c.args.rides + 1) c.index-rounds-rides.result
    (omega (arith, c.requires.times.count))) in
    let lanes : (l : ℕ) → l < g.R.LaneLabels.LANES →
    LaneStateTo never cn (start_at c.args.query (slice_index departures l)) (k + 1)
    (lane l (rows c.scan_lines.new.ride)) (lane l (rows c.transfer_marked.new.ready)) = λ l h.
    bounded_next never cn ok (start_at c.args.query (slice_index departures l)) later c.requires.query.origin refl
    (c.requires.batch.none_later l h) limit k (lane l (rows c.as_mut_slice-ride.result.now))
    (lane l (rows c.as_mut_slice-ready.result.now))
    (lane l (rows c.lower_to.new.labels)) (lane l (rows c.scan_lines.new.ride))
    (lane l (rows c.bound_ready.new.labels)) (lane l (rows c.transfer_marked.new.ready))
    (as_labels base never (get_or c.args.rounds.now (c.args.rides + 1) c.index-rounds-rides.result).ride.items)
    (as_labels base never (get_or c.args.rounds.now (c.args.rides + 1) c.index-rounds-rides.result).ready.items)
    (state_of l g.R.LaneLabels.labels c.as_mut_slice-ride.ensures.value c.as_mut_slice-ready.ensures.value
    (c.requires.labels.states l h)) bound (rw c.as_slice.ensures.value at (c.lower_to.ensures l h))
    (rw c.trips.ensures at (c.scan_lines.ensures.lanes l h))
    (rw c.as_slice-2.ensures.value at (c.bound_ready.ensures.lanes l h))
    (rw c.feet.ensures at (c.transfer_marked.ensures.lanes l h)) in
    let is_ride = written t.ride c.scan_lines.new.ride c.requires.workspace.ride
    c.as_mut_slice-ride.ensures.value c.as_mut_slice-ride.ensures.len ride in
    let is_ready = written t.ready.labels c.transfer_marked.new.ready c.requires.workspace.ready
    c.as_mut_slice-ready.ensures.value c.as_mut_slice-ready.ensures.len ready in
    let is_before = written t.ready.before c.transfer_marked.new.before c.requires.workspace.before
    c.as_mut_slice-before.ensures.value c.as_mut_slice-before.ensures.len before in
    let is_fallen = written t.ready.fallen c.transfer_marked.new.fallen c.requires.workspace.fallen
    c.as_mut_slice-fallen.ensures.value c.as_mut_slice-fallen.ensures.len fallen in
    record {
      states = λ l h. rw (is_ride, is_ready) (lanes l h);
      settled = λ l h. rw (is_ride, is_ready, is_before, is_fallen) (record {
        was = lane l (rows c.bound_ready.new.labels);
        noted = c.transfer_marked.ensures.before l (lane l (rows c.bound_ready.new.labels)) h (none_noted
            (lane l (rows c.bound_ready.new.labels)) (lane l (rows c.as_mut_slice-before.result.now))
            c.bound_ready.new.fallen c.bound_ready.ensures.none);
        settled = λ next next_ready lowered trip t more lower runs.
            round_settled never cn ok later
            (start_at c.args.query (slice_index departures l)) k (lane l (rows c.as_mut_slice-ride.result.now))
            (lane l (rows c.as_mut_slice-ready.result.now)) (lane l (rows c.lower_to.new.labels))
            (lane l (rows c.scan_lines.new.ride)) (lane l (rows c.bound_ready.new.labels)) lowered
            (as_labels base never (get_or was (k + 1) c.index-rounds-rides.result).ride.items)
            (as_labels base never (get_or was (k + 1) c.index-rounds-rides.result).ready.items)
            next next_ready (state_of l g.R.LaneLabels.labels c.as_mut_slice-ride.ensures.value
            c.as_mut_slice-ready.ensures.value
            (c.requires.labels.states l h)) (lanes l h).ride_len bound more
            (rw c.trips.ensures at (c.scan_lines.ensures.lanes l h))
            (rw c.as_slice-2.ensures.value at (c.bound_ready.ensures.lanes l h)) lower trip t runs;
      });
    }

pub returns-clause-times : goal.returns-clause-times
returns-clause-times g c =
    let never = g.R.LaneLabels.NEVER in
    let base = c.args.batch.base in
    let rows = labels_in g.R.LaneLabels.labels in
    let n = c.args.query.network.now in
    let cn = cut_net base never n in
    let ok = cut_net_is_net base never n c.known.ensures in
    let limit : never ≤ NEVER = omega (arith, c.requires.batch.base) in
    let later = start_at c.args.query (cut base never c.args.batch.bounded_by) in
    let departures = g.R.LaneLabels.labels c.args.batch.departures in
    let some : 0 < g.R.LaneLabels.LANES = omega (arith, g.met.R.LaneLabels.some) in
    let k = c.args.rides in
    let bound = c.requires.times.bounds (k + 1) (get_or c.args.rounds.now (c.args.rides + 1) c.index-rounds-rides.result)
    (omega arith) (omega arith) (slice_get-get_or c.args.rounds.now (c.args.rides + 1) c.index-rounds-rides.result
    (omega (arith, c.requires.times.count))) in
    let lanes : (l : ℕ) → l < g.R.LaneLabels.LANES →
    LaneStateTo never cn (start_at c.args.query (slice_index departures l)) (k + 1)
    (lane l (rows c.scan_lines.new.ride)) (lane l (rows c.transfer_marked.new.ready)) = λ l h.
    bounded_next never cn ok (start_at c.args.query (slice_index departures l)) later c.requires.query.origin refl
    (c.requires.batch.none_later l h) limit k (lane l (rows c.as_mut_slice-ride.result.now))
    (lane l (rows c.as_mut_slice-ready.result.now))
    (lane l (rows c.lower_to.new.labels)) (lane l (rows c.scan_lines.new.ride))
    (lane l (rows c.bound_ready.new.labels)) (lane l (rows c.transfer_marked.new.ready))
    (as_labels base never (get_or c.args.rounds.now (c.args.rides + 1) c.index-rounds-rides.result).ride.items)
    (as_labels base never (get_or c.args.rounds.now (c.args.rides + 1) c.index-rounds-rides.result).ready.items)
    (state_of l g.R.LaneLabels.labels c.as_mut_slice-ride.ensures.value c.as_mut_slice-ready.ensures.value
    (c.requires.labels.states l h)) bound (rw c.as_slice.ensures.value at (c.lower_to.ensures l h))
    (rw c.trips.ensures at (c.scan_lines.ensures.lanes l h))
    (rw c.as_slice-2.ensures.value at (c.bound_ready.ensures.lanes l h))
    (rw c.feet.ensures at (c.transfer_marked.ensures.lanes l h)) in
    record {
      count = search rules;
      own = λ saves j x below here.
          elim (cases_lt j (k + 1)) [
            | inl lt ↦ c.requires.times.own saves j x (omega arith)
                (sym (set_other c.args.rounds.now (k + 1) j c.save_both.new.times (λ e. omega arith)) ∙ here)
            | inr ge ↦
                let e : j ≡ k + 1 = omega arith in
                let here' = rw e at here in
                let is : c.save_both.new.times ≡ x =
                same_Some _ _ (sym (set_same c.args.rounds.now (k + 1) c.save_both.new.times (omega arith))
                ∙ here') in
                rw (e, ← is, c.save_both.ensures.ride saves, c.save_both.ensures.ready saves) (lanes 0 some)
          ];
      bounds = λ j x more few here. c.requires.times.bounds j x (omega arith) few
          (sym (set_other c.args.rounds.now (k + 1) j c.save_both.new.times (λ e. omega arith)) ∙ here);
    }
