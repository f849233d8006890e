use Rattle.std.proofs.Common.{◌≡◌, ◌<◌, ◌≤◌, ◌+◌, ◌⊎◌, inl, inr, ℕ, List, length, slice_index, ap}
use Rattle.std.proofs.Common.{arith}
use Rattle.std.proofs.lemmas.Bool.{cases_lt, lt-ltb}
use Rattle.timetable.specs.declared.limits.TheConstants.{END_OF_AXIS}
use Rattle.timetable.specs.declared.least.TheConstants.{NEVER}
use Rattle.trip_lanes.specs.Lane.{lane, labels_in}
use Rattle.rounds.specs.Batches.{AreBounds, departure_at}
use Rattle.rounds.proofs.BoundedStops.{written}
use Rattle.rounds.proofs.SearchedBatches.{before_next, no_sooner, represented}
use Rattle.rounds.proofs.LabelsOfBatch.{lane_told, lane_dead, times_rebased}
use Rattle.rounds.proofs.batches.run_batch.Goals as goal

pub base_of-base-requires : goal.base_of-base-requires
base_of-base-requires g c = c.requires.query.times.on_axis c.args.from c.requires.from

pub departure_labels-departures-requires-clause-range : goal.departure_labels-departures-requires-clause-range
departure_labels-departures-requires-clause-range g c l h within =
    let base = c.base_of-base.ensures in
    let near = represented c.args.query c.requires.query.times g.R.LaneLabels.LANES g.R.LaneLabels.NEVER c.args.from
    c.base_of-base.result c.requires.range base.narrow base.wide l (omega (arith, h)) within in
    omega (arith, near)

pub run_bounded-requires-clause-batch : goal.run_bounded-requires-clause-batch
run_bounded-requires-clause-batch g c =
    let q = c.args.query in
    let count = length q.times.now in
    let lanes = g.R.LaneLabels.LANES in
    let from = c.args.from in
    let base = c.base_of-base.ensures in
    let near = represented q c.requires.query.times lanes g.R.LaneLabels.NEVER from c.base_of-base.result
    c.requires.range base.narrow base.wide in
    let later = c.requires.departure in
    record {
      base = base.fits;
      departures = λ l h.
          let d = c.departure_labels-departures.ensures l h in
          elim (cases_lt (from + l) count) [
            | inl lt ↦
                let t = d.used lt in
                let low = near l (omega (arith, h)) lt in
                omega (arith, t, low)
            | inr ge ↦ let t = d.unused ge in omega (arith, t)
          ];
      none_later = λ l h.
          let d = c.departure_labels-departures.ensures l h in
          elim (cases_lt (from + lanes) count) [
            | inl more ↦
                let e = later.followed more in
                let lt : from + l < count = omega (arith, h, more) in
                let t = d.used lt in
                let low = near l (omega (arith, h)) lt in
                let next = before_next q.times.now c.requires.query.times lanes from l h more in
                omega (arith, e, t, low, next)
            | inr none ↦
                let e = later.last none in
                elim (cases_lt (from + l) count) [
                  | inl lt ↦
                      let t = d.used lt in
                      let low = near l (omega (arith, h)) lt in
                      omega (arith, t, e, low, base.fits)
                  | inr ge ↦ let t = d.unused ge in omega (arith, t, e, base.fits)
                ]
          ];
    }

pub run_bounded-requires-clause-bounds : goal.run_bounded-requires-clause-bounds
run_bounded-requires-clause-bounds g c =
    let q = c.args.query in
    let never = g.R.LaneLabels.NEVER in
    let lanes = g.R.LaneLabels.LANES in
    let from = c.args.from in
    let base = c.base_of-base.ensures in
    let near = represented q c.requires.query.times lanes never from c.base_of-base.result c.requires.range base.narrow
    base.wide in
    let a = c.requires.query.times.on_axis from c.requires.from in
    let first : ℕ = departure_at q from in
    let time : ℕ = c.args.bounds.now.departure in
    let later : (time ≡ NEVER) ⊎ ((first ≤ time) × (time < c.base_of-base.result + never)) =
    elim (cases_lt (from + lanes) (length q.times.now)) [
      | inl more ↦
          let e = c.requires.departure.followed more in
          let s = no_sooner q.times.now c.requires.query.times from lanes more in
          let low = near lanes (omega arith) more in
          inr (omega (arith, e, s), omega (arith, e, low))
      | inr none ↦ inl (c.requires.departure.last none)
    ] in
    rw c.as_mut_slice.ensures.value (c.requires.bounds.each c.base_of-base.result (record {
      fits = base.fits;
      before = elim base.before [
        | inl none ↦ inl none
        | inr l ↦ elim (cases_lt (never + END_OF_AXIS) NEVER) [
          | inl short ↦ inr (
            elim later [ inl e ↦ omega (arith, l, a, e) | inr e ↦ omega (arith, l, e.0) ],
            short,
          )
          | inr long ↦ inl (base.wide long)
        ]
      ];
      in_range = elim later [ inl e ↦ inl e | inr e ↦ inr e.1 ];
    }))

pub returns-clause-arrivals : goal.returns-clause-arrivals
returns-clause-arrivals g c =
    let q = c.args.query in
    let n = q.network.now in
    let lanes = g.R.LaneLabels.LANES in
    let never = g.R.LaneLabels.NEVER in
    let from = c.args.from in
    let base = c.base_of-base.ensures in
    let near = represented q c.requires.query.times lanes never from c.base_of-base.result c.requires.range base.narrow
    base.wide in
    let a = c.requires.query.times.on_axis from c.requires.from in
    let ride : ℕ → List ℕ = λ l. lane l (labels_in g.R.LaneLabels.labels c.run_bounded.new.workspace.ride.items) in
    let ready : ℕ → List ℕ = λ l. lane l
    (labels_in g.R.LaneLabels.labels c.run_bounded.new.workspace.ready.labels.items) in
    let time : ℕ → ℕ = λ l. slice_index (g.R.LaneLabels.labels c.departure_labels-departures.result) l in
    record {
      early = omega (arith, a, base.no_later);
      whole = base.wide;
      departures = c.departure_labels-departures.ensures;
      near = λ l h within. near l (omega (arith, h)) within;
      told = λ l p h within there late.
          let t = (c.departure_labels-departures.ensures l h).used within in
          let s = no_sooner q.times.now c.requires.query.times from l within in
          lane_told q c.known.ensures c.base_of-base.result never (time l) (departure_at q (from + l)) t
          (elim base.before [
            | inl none ↦ inr none
            | inr before ↦ inl (omega (arith, before, t, s))
          ]) (ride l) (ready l) (c.run_bounded.ensures.labels l h) p there (omega (arith, base.fits)) late;
      unused = λ l p h past there.
          lane_dead n c.known.ensures c.base_of-base.result never q.origin.0 (time l) q.rides (ride l) (ready l)
          (omega (arith, g.met.R.LaneLabels.room)) ((c.departure_labels-departures.ensures l h).unused past)
          (c.run_bounded.ensures.labels l h) p there;
    }

pub returns-clause-bounds : goal.returns-clause-bounds
returns-clause-bounds g c more =
    let q = c.args.query in
    let lanes = g.R.LaneLabels.LANES in
    let never = g.R.LaneLabels.NEVER in
    let from = c.args.from in
    let base = c.base_of-base.ensures in
    let a = c.requires.query.times.on_axis from c.requires.from in
    let some : 0 < lanes = omega (arith, g.met.R.LaneLabels.some) in
    let no_lane : from + 0 ≡ from = omega arith in
    let head = (c.departure_labels-departures.ensures 0 some).used (omega (arith, no_lane, c.requires.from)) in
    let head_same = ap (departure_at q) no_lane in
    let are_rounds = written c.args.bounds.now.rounds c.run_bounded.new.rounds c.requires.bounds.count
    c.as_mut_slice.ensures.value c.as_mut_slice.ensures.len c.run_bounded.ensures.count in
    let new : AreBounds never q (departure_at q from) c.run_bounded.new.rounds =
    record {
      count = c.run_bounded.ensures.count;
      each = times_rebased q.network.now c.known.ensures c.base_of-base.result never q.origin.0
          (slice_index (g.R.LaneLabels.labels c.departure_labels-departures.result) 0) (departure_at q from)
          q.rides c.run_bounded.new.rounds a base.no_later base.before base.narrow
          (omega (arith, head, head_same)) (c.run_bounded.ensures.times (lt-ltb 0 from more));
    } in
    rw are_rounds new
