use Rattle.std.proofs.Common.{rules, ◌≡◌, ◌≢◌, ◌<◌, ◌≤◌, ℕ, List, length, replicate, slice_index, slice_get, get_or, ap}
use Rattle.std.proofs.Common.{◌+◌, refl, sym, ◌∙◌, arith}
use Rattle.std.proofs.lemmas.Option.{same_Some, slice_get-get_or}
use Rattle.timetable.specs.Footpaths.{FeetData}
use Rattle.timetable.specs.RoundSteps.{Lowers}
use Rattle.timetable.specs.declared.least.TheConstants.{NEVER}
use Rattle.timetable.proofs.ListsAddedTo.{set_same, set_other}
use Rattle.trip_lanes.specs.Cut.{cut}
use Rattle.trip_lanes.specs.Lane.{lane, labels_in}
use Rattle.rounds.specs.declared.bounded.RoundTimes.{RoundTimes}
use Rattle.rounds.specs.Batches.{start_at, as_labels}
use Rattle.rounds.specs.Cut.{cut_net}
use Rattle.rounds.specs.CappedLabels.{LaneStateTo}
use Rattle.rounds.proofs.BoundedStops.{none_noted, times_long, written, written_long}
use Rattle.rounds.proofs.CutNetworks.{cut_net_is_net}
use Rattle.rounds.proofs.LabelTables.{fits_after, fits_of}
use Rattle.rounds.proofs.LabelStates.{bounded_start}
use Rattle.rounds.proofs.LaneRounds.{start_walks, start_settled}
use Rattle.rounds.proofs.UnboundedBatches.{none_bound}
use Rattle.rounds.proofs.bounded.begin.Goals as goal

-- a lane of rows that were cleared, of which it is known how many there are
cleared : (never m n l : ℕ) (rows : List (List ℕ)) → lane l rows ≡ replicate m never → m ≡ n →
    lane l rows ≡ replicate n never
cleared never m n l rows e f = e ∙ ap (λ (i : ℕ). replicate i never) f

pub bound_ready-requires-clause-same : goal.bound_ready-requires-clause-same
bound_ready-requires-clause-same g c =
    let never = g.R.LaneLabels.NEVER in
    let base = c.args.batch.base in
    let n = c.args.query.network.now in
    let later = start_at c.args.query (cut base never c.args.batch.bounded_by) in
    let was = c.args.rounds.now in
    let x = get_or was 0 c.index-rounds-0.result in
    let long = times_long base never 0 n later x
    (c.requires.bounds 0 x (omega arith)
    (slice_get-get_or was 0 c.index-rounds-0.result (omega (arith, c.requires.count)))) in
    omega (
      arith,
      long.1,
      ap length c.as_slice.ensures.value,
      c.clear-2.auto.labels,
      ap length c.as_mut_slice-ready.ensures.value,
      c.requires.workspace.ready,
    )

pub bound_ready-requires-clause-unbounded : goal.bound_ready-requires-clause-unbounded
bound_ready-requires-clause-unbounded g c none =
    let never = g.R.LaneLabels.NEVER in
    let base = c.args.batch.base in
    let x = get_or c.args.rounds.now 0 c.index-rounds-0.result in
    let bound = c.requires.bounds 0 x (omega arith)
    (slice_get-get_or c.args.rounds.now 0 c.index-rounds-0.result (omega (arith, c.requires.count))) in
    rw c.as_slice.ensures.value ((none_bound c.args.query.network.now c.known.ensures base never
    c.args.query.origin.0 c.args.batch.bounded_by 0 (as_labels base never x.ride.items)
    (as_labels base never x.ready.items) (omega (arith, g.met.R.LaneLabels.room)) c.requires.batch.base
    none bound).1)

pub bound_ready-requires-clause-fits : goal.bound_ready-requires-clause-fits
bound_ready-requires-clause-fits g c l p h =
    let never = g.R.LaneLabels.NEVER in
    let stops = c.args.query.network.now.stops in
    rw (sym (cleared never (length c.as_mut_slice-ready.result.now) stops l
    (labels_in g.R.LaneLabels.labels c.clear-2.new.labels)
    (c.clear-2.ensures l h) (ap length c.as_mut_slice-ready.ensures.value ∙ c.requires.workspace.ready)))
    at (fits_of never stops p)

pub walk_marked-requires-clause-fits : goal.walk_marked-requires-clause-fits
walk_marked-requires-clause-fits g c l p h =
    let never = g.R.LaneLabels.NEVER in
    let rows = labels_in g.R.LaneLabels.labels in
    let stops = c.args.query.network.now.stops in
    let start = rw (cleared never (length c.as_mut_slice-ready.result.now) stops l (rows c.clear-2.new.labels)
    (c.clear-2.ensures l h) (ap length c.as_mut_slice-ready.ensures.value
    ∙ c.requires.workspace.ready)) at (c.bound_ready.ensures.lanes l h) in
    fits_after never (replicate stops never) (lane l (rows c.bound_ready.new.labels)) (fits_of never stops) start p

pub walk_marked-requires-clause-settled : goal.walk_marked-requires-clause-settled
walk_marked-requires-clause-settled g c l x h within none =
    let never = g.R.LaneLabels.NEVER in
    let base = c.args.batch.base in
    let rows = labels_in g.R.LaneLabels.labels in
    let n = c.args.query.network.now in
    let ok = cut_net_is_net base never n c.known.ensures in
    let origin = c.args.query.origin.0 in
    let later = start_at c.args.query (cut base never c.args.batch.bounded_by) in
    let start = rw (cleared never (length c.as_mut_slice-ready.result.now) n.stops l (rows c.clear-2.new.labels)
    (c.clear-2.ensures l h) (ap length c.as_mut_slice-ready.ensures.value
    ∙ c.requires.workspace.ready)) at (c.bound_ready.ensures.lanes l h) in
    let low = rw (cleared never (length c.as_mut_slice-ride.result.now) n.stops l (rows c.clear.new.labels)
    (c.clear.ensures l h) (ap length c.as_mut_slice-ride.ensures.value
    ∙ c.requires.workspace.ride)) at (c.set_out.ensures.lanes l h) in
    let there : x < n.stops =
    omega (arith, within, ap (λ (f : FeetData). length f.walks) c.feet.ensures, c.known.ensures.in_range.lists) in
    let other : x ≢ origin = λ e. none (ap (slice_get c.set_out.new.marked) e ∙ c.set_out.ensures.marks) in
    rw c.feet.ensures (start_walks never (cut_net base never n) ok later origin
    (slice_index (g.R.LaneLabels.labels c.args.batch.departures) l) (lane l (rows c.set_out.new.ride))
    (lane l (rows c.bound_ready.new.labels)) (as_labels base never
    (get_or c.args.rounds.now 0 c.index-rounds-0.result).ready.items) low (rw c.as_slice.ensures.value at start) x
    there other)

pub save_both-requires-clause-ride : goal.save_both-requires-clause-ride
save_both-requires-clause-ride g c =
    let never = g.R.LaneLabels.NEVER in
    let base = c.args.batch.base in
    let n = c.args.query.network.now in
    let later = start_at c.args.query (cut base never c.args.batch.bounded_by) in
    let was = c.args.rounds.now in
    let x = get_or was 0 c.index-rounds-0.result in
    let long = times_long base never 0 n later x
    (c.requires.bounds 0 x (omega arith)
    (slice_get-get_or was 0 c.index-rounds-0.result (omega (arith, c.requires.count)))) in
    omega (
      arith,
      long.0,
      ap (λ (y : RoundTimes). length y.ride.items) c.index-rounds-0.is,
      c.set_out.auto.ride,
      c.clear.auto.labels,
      ap length c.as_mut_slice-ride.ensures.value,
      c.requires.workspace.ride,
    )

pub save_both-requires-clause-ready : goal.save_both-requires-clause-ready
save_both-requires-clause-ready g c =
    let never = g.R.LaneLabels.NEVER in
    let base = c.args.batch.base in
    let n = c.args.query.network.now in
    let later = start_at c.args.query (cut base never c.args.batch.bounded_by) in
    let was = c.args.rounds.now in
    let x = get_or was 0 c.index-rounds-0.result in
    let long = times_long base never 0 n later x
    (c.requires.bounds 0 x (omega arith)
    (slice_get-get_or was 0 c.index-rounds-0.result (omega (arith, c.requires.count)))) in
    omega (
      arith,
      long.1,
      ap (λ (y : RoundTimes). length y.ready.items) c.index-rounds-0.is,
      c.walk_marked.auto.ready,
      c.bound_ready.auto.labels,
      c.clear-2.auto.labels,
      ap length c.as_mut_slice-ready.ensures.value,
      c.requires.workspace.ready,
    )

pub save_both-requires-clause-ready_fits : goal.save_both-requires-clause-ready_fits
save_both-requires-clause-ready_fits g c p =
    let never = g.R.LaneLabels.NEVER in
    let rows = labels_in g.R.LaneLabels.labels in
    let stops = c.args.query.network.now.stops in
    let some : 0 < g.R.LaneLabels.LANES = omega (arith, g.met.R.LaneLabels.some) in
    let start = rw (cleared never (length c.as_mut_slice-ready.result.now) stops 0 (rows c.clear-2.new.labels)
    (c.clear-2.ensures 0 some) (ap length c.as_mut_slice-ready.ensures.value
    ∙ c.requires.workspace.ready)) at (c.bound_ready.ensures.lanes 0 some) in
    fits_after never (lane 0 (rows c.bound_ready.new.labels)) (lane 0 (rows c.walk_marked.new.ready))
    (fits_after never (replicate stops never) (lane 0 (rows c.bound_ready.new.labels)) (fits_of never stops) start)
    (c.walk_marked.ensures.lanes 0 some) p

pub returns-clause-workspace : goal.returns-clause-workspace
returns-clause-workspace g c =
    let t = c.args.workspace.now in
    let stops = c.args.query.network.now.stops in
    let ride : length c.set_out.new.ride ≡ stops =
    c.set_out.auto.ride ∙ (c.clear.auto.labels
    ∙ (ap length c.as_mut_slice-ride.ensures.value ∙ c.requires.workspace.ride)) in
    let ready : length c.walk_marked.new.ready ≡ stops =
    c.walk_marked.auto.ready ∙ (c.bound_ready.auto.labels ∙ (c.clear-2.auto.labels
    ∙ (ap length c.as_mut_slice-ready.ensures.value ∙ c.requires.workspace.ready))) in
    let before : length c.walk_marked.new.before ≡ stops + 1 =
    c.walk_marked.auto.before ∙ (ap length c.as_mut_slice-before.ensures.value ∙ c.requires.workspace.before) in
    let marked : length c.set_out.new.marked ≡ stops =
    c.set_out.auto.marked ∙ (ap length c.as_mut_slice-marked.ensures.value ∙ c.requires.workspace.marked) in
    let fallen : length c.walk_marked.new.fallen ≡ stops =
    c.walk_marked.auto.fallen ∙ (c.bound_ready.auto.fallen
    ∙ (ap length c.as_mut_slice-fallen.ensures.value ∙ c.requires.workspace.fallen)) in
    record {
      ride = written_long t.ride c.set_out.new.ride c.requires.workspace.ride
          c.as_mut_slice-ride.ensures.value c.as_mut_slice-ride.ensures.len ride;
      ready = written_long t.ready.labels c.walk_marked.new.ready c.requires.workspace.ready
          c.as_mut_slice-ready.ensures.value c.as_mut_slice-ready.ensures.len ready;
      before = written_long t.ready.before c.walk_marked.new.before c.requires.workspace.before
          c.as_mut_slice-before.ensures.value c.as_mut_slice-before.ensures.len before;
      falls = c.requires.workspace.falls;
      marked = written_long t.marked c.set_out.new.marked c.requires.workspace.marked
          c.as_mut_slice-marked.ensures.value c.as_mut_slice-marked.ensures.len marked;
      fallen = written_long t.ready.fallen c.walk_marked.new.fallen c.requires.workspace.fallen
          c.as_mut_slice-fallen.ensures.value c.as_mut_slice-fallen.ensures.len fallen;
      due = c.requires.workspace.due;
    }

pub returns-clause-labels : goal.returns-clause-labels
returns-clause-labels g c =
    let t = c.args.workspace.now in
    let stops = c.args.query.network.now.stops in
    let ride : length c.set_out.new.ride ≡ stops =
    c.set_out.auto.ride ∙ (c.clear.auto.labels
    ∙ (ap length c.as_mut_slice-ride.ensures.value ∙ c.requires.workspace.ride)) in
    let ready : length c.walk_marked.new.ready ≡ stops =
    c.walk_marked.auto.ready ∙ (c.bound_ready.auto.labels ∙ (c.clear-2.auto.labels
    ∙ (ap length c.as_mut_slice-ready.ensures.value ∙ c.requires.workspace.ready))) in
    let before : length c.walk_marked.new.before ≡ stops + 1 =
    c.walk_marked.auto.before ∙ (ap length c.as_mut_slice-before.ensures.value ∙ c.requires.workspace.before) in
    let marked : length c.set_out.new.marked ≡ stops =
    c.set_out.auto.marked ∙ (ap length c.as_mut_slice-marked.ensures.value ∙ c.requires.workspace.marked) in
    let fallen : length c.walk_marked.new.fallen ≡ stops =
    c.walk_marked.auto.fallen ∙ (c.bound_ready.auto.fallen
    ∙ (ap length c.as_mut_slice-fallen.ensures.value ∙ c.requires.workspace.fallen)) in
    let never = g.R.LaneLabels.NEVER in
    let base = c.args.batch.base in
    let rows = labels_in g.R.LaneLabels.labels in
    let n = c.args.query.network.now in
    let cn = cut_net base never n in
    let ok = cut_net_is_net base never n c.known.ensures in
    let limit : never ≤ NEVER = omega (arith, c.requires.batch.base) in
    let later = start_at c.args.query (cut base never c.args.batch.bounded_by) in
    let departures = g.R.LaneLabels.labels c.args.batch.departures in
    let some : 0 < g.R.LaneLabels.LANES = omega (arith, g.met.R.LaneLabels.some) in
    let start : (l : ℕ) → l < g.R.LaneLabels.LANES →
    Lowers (λ p x. x ≡ slice_index (as_labels base never
    (get_or c.args.rounds.now 0 c.index-rounds-0.result).ready.items) p) (replicate n.stops never)
    (lane l (rows c.bound_ready.new.labels)) = λ l h.
    rw (
      cleared never (length c.as_mut_slice-ready.result.now) n.stops l (rows c.clear-2.new.labels)
          (c.clear-2.ensures l h) (ap length c.as_mut_slice-ready.ensures.value ∙ c.requires.workspace.ready),
      c.as_slice.ensures.value,
    ) at (c.bound_ready.ensures.lanes l h) in
    let low : (l : ℕ) → l < g.R.LaneLabels.LANES → Lowers (λ p x. (p ≡ c.args.query.origin.0)
    × (x ≡ slice_index departures l)) (replicate n.stops never) (lane l (rows c.set_out.new.ride)) = λ l h.
    rw (cleared never (length c.as_mut_slice-ride.result.now) n.stops l (rows c.clear.new.labels) (c.clear.ensures l h)
    (ap length c.as_mut_slice-ride.ensures.value ∙ c.requires.workspace.ride)) at (c.set_out.ensures.lanes l h) in
    let was = c.args.rounds.now in
    let first = c.requires.bounds 0 (get_or c.args.rounds.now 0 c.index-rounds-0.result) (omega arith)
    (slice_get-get_or was 0 c.index-rounds-0.result (omega (arith, c.requires.count))) in
    let lanes : (l : ℕ) → l < g.R.LaneLabels.LANES →
    LaneStateTo never cn (start_at c.args.query (slice_index departures l)) 0 (lane l (rows c.set_out.new.ride))
    (lane l (rows c.walk_marked.new.ready)) = λ l h.
    bounded_start never cn ok (start_at c.args.query (slice_index departures l)) later c.requires.query.origin refl
    (c.requires.batch.none_later l h) limit (lane l (rows c.set_out.new.ride))
    (lane l (rows c.bound_ready.new.labels)) (lane l (rows c.walk_marked.new.ready))
    (as_labels base never (get_or c.args.rounds.now 0 c.index-rounds-0.result).ride.items)
    (as_labels base never (get_or c.args.rounds.now 0 c.index-rounds-0.result).ready.items)
    first (low l h) (start l h) (rw c.feet.ensures at (c.walk_marked.ensures.lanes l h)) in
    let is_ride = written t.ride c.set_out.new.ride c.requires.workspace.ride
    c.as_mut_slice-ride.ensures.value c.as_mut_slice-ride.ensures.len ride in
    let is_ready = written t.ready.labels c.walk_marked.new.ready c.requires.workspace.ready
    c.as_mut_slice-ready.ensures.value c.as_mut_slice-ready.ensures.len ready in
    let is_before = written t.ready.before c.walk_marked.new.before c.requires.workspace.before
    c.as_mut_slice-before.ensures.value c.as_mut_slice-before.ensures.len before in
    let is_fallen = written t.ready.fallen c.walk_marked.new.fallen c.requires.workspace.fallen
    c.as_mut_slice-fallen.ensures.value c.as_mut_slice-fallen.ensures.len fallen in
    record {
      states = λ l h. rw (is_ride, is_ready) (lanes l h);
      settled = λ l h. rw (is_ride, is_ready, is_before, is_fallen) (record {
        was = lane l (rows c.bound_ready.new.labels);
        noted = c.walk_marked.ensures.before l (lane l (rows c.bound_ready.new.labels)) h (none_noted
            (lane l (rows c.bound_ready.new.labels)) (lane l (rows c.as_mut_slice-before.result.now))
            c.bound_ready.new.fallen c.bound_ready.ensures.none);
        settled = λ bound bound_ready lowered trip t next lower runs.
            start_settled never cn ok later (slice_index departures l) c.args.query.origin.0
            (lane l (rows c.set_out.new.ride)) (lane l (rows c.bound_ready.new.labels)) lowered
            (as_labels base never (get_or c.args.rounds.now 0 c.index-rounds-0.result).ride.items)
            (as_labels base never (get_or c.args.rounds.now 0 c.index-rounds-0.result).ready.items)
            bound bound_ready first next (low l h) (start l h) lower trip t runs;
      });
    }

pub returns-clause-times : goal.returns-clause-times
returns-clause-times g c =
    let never = g.R.LaneLabels.NEVER in
    let base = c.args.batch.base in
    let rows = labels_in g.R.LaneLabels.labels in
    let n = c.args.query.network.now in
    let cn = cut_net base never n in
    let ok = cut_net_is_net base never n c.known.ensures in
    let limit : never ≤ NEVER = omega (arith, c.requires.batch.base) in
    let later = start_at c.args.query (cut base never c.args.batch.bounded_by) in
    let departures = g.R.LaneLabels.labels c.args.batch.departures in
    let some : 0 < g.R.LaneLabels.LANES = omega (arith, g.met.R.LaneLabels.some) in
    let start : (l : ℕ) → l < g.R.LaneLabels.LANES →
    Lowers (λ p x. x ≡ slice_index (as_labels base never
    (get_or c.args.rounds.now 0 c.index-rounds-0.result).ready.items) p) (replicate n.stops never)
    (lane l (rows c.bound_ready.new.labels)) = λ l h.
    rw (
      cleared never (length c.as_mut_slice-ready.result.now) n.stops l (rows c.clear-2.new.labels)
          (c.clear-2.ensures l h) (ap length c.as_mut_slice-ready.ensures.value ∙ c.requires.workspace.ready),
      c.as_slice.ensures.value,
    ) at (c.bound_ready.ensures.lanes l h) in
    let low : (l : ℕ) → l < g.R.LaneLabels.LANES → Lowers (λ p x. (p ≡ c.args.query.origin.0)
    × (x ≡ slice_index departures l)) (replicate n.stops never) (lane l (rows c.set_out.new.ride)) = λ l h.
    rw (cleared never (length c.as_mut_slice-ride.result.now) n.stops l (rows c.clear.new.labels) (c.clear.ensures l h)
    (ap length c.as_mut_slice-ride.ensures.value ∙ c.requires.workspace.ride)) at (c.set_out.ensures.lanes l h) in
    let was = c.args.rounds.now in
    let first = c.requires.bounds 0 (get_or c.args.rounds.now 0 c.index-rounds-0.result) (omega arith)
    (slice_get-get_or was 0 c.index-rounds-0.result (omega (arith, c.requires.count))) in
    let lanes : (l : ℕ) → l < g.R.LaneLabels.LANES →
    LaneStateTo never cn (start_at c.args.query (slice_index departures l)) 0 (lane l (rows c.set_out.new.ride))
    (lane l (rows c.walk_marked.new.ready)) = λ l h.
    bounded_start never cn ok (start_at c.args.query (slice_index departures l)) later c.requires.query.origin refl
    (c.requires.batch.none_later l h) limit (lane l (rows c.set_out.new.ride))
    (lane l (rows c.bound_ready.new.labels)) (lane l (rows c.walk_marked.new.ready))
    (as_labels base never (get_or c.args.rounds.now 0 c.index-rounds-0.result).ride.items)
    (as_labels base never (get_or c.args.rounds.now 0 c.index-rounds-0.result).ready.items)
    first (low l h) (start l h) (rw c.feet.ensures at (c.walk_marked.ensures.lanes l h)) in
    record {
      count = search rules;
      own = λ saves j x below here.
          let e : j ≡ 0 = omega arith in
          let here' = rw e at here in
          let is : c.save_both.new.times ≡ x = same_Some _ _
          (sym (set_same was 0 c.save_both.new.times (omega (arith, c.requires.count))) ∙ here') in
          rw (e, ← is, c.save_both.ensures.ride saves, c.save_both.ensures.ready saves) (lanes 0 some);
      bounds = λ j x more few here. c.requires.bounds j x few
          (sym (set_other was 0 j c.save_both.new.times (λ e. omega arith)) ∙ here);
    }
