use Rattle.std.proofs.Common.{◌≡◌, ◌≢◌, ℕ, ◌+◌, ◌*◌, ◌<◌, ◌≤◌, inl, inr, List, [], length, get_or, min, slice_index, ap}
use Rattle.std.proofs.Common.{arith, refl, sym, subst, ◌∙◌}
use Rattle.std.proofs.lemmas.Bool.{cases_lt}
use Rattle.std.proofs.lemmas.List.{length-set}
use Rattle.timetable.specs.declared.least.TheConstants.{NEVER}
use Rattle.trip_lanes.specs.Lane.{lane, labels_in}
use Rattle.trip_lanes.specs.Since.{IsSinceTo}
use Rattle.useful_minutes.proofs.FilledLabels.{position_before}
use Rattle.rounds.specs.State.{arrival}
use Rattle.rounds.proofs.ArrivalInEachLane.{lower_arrival}
use Rattle.rounds.proofs.FilledTable.{placed, apart}
use Rattle.rounds.proofs.wide.write_batch.Goals as goal

-- the lower label of a stop, of rows that are lists
low_of : (ride ready : List (List ℕ)) (s l : ℕ) (low : List ℕ) → s < length ride → s < length ready →
    ((k : ℕ) → k < 16 → slice_index low k
    ≡ min (slice_index (get_or ride s []) k) (slice_index (get_or ready s []) k)) →
    l < 16 → slice_index low l ≡ arrival (lane l (labels_in (λ (row : List ℕ). row) ride))
    (lane l (labels_in (λ (row : List ℕ). row) ready)) s
low_of ride ready s l low in_ride in_ready is h =
    lower_arrival (λ (row : List ℕ). row) ride ready s l (get_or ride s []) (get_or ready s []) [] [] low refl refl
    in_ride in_ready (is l h)

pub since-requires-clause-fits : goal.since-requires-clause-fits
since-requires-clause-fits c l h =
    let s = c.loop-stop.stop in
    let ride = c.as_slice-ride.result.now in
    let ready = c.as_slice-ready.result.now in
    let in_ready : s < length c.args.workspace.now.ready.labels.items =
    omega (arith, c.loop-stop-test.true, ap length c.as_slice-ready.ensures.value) in
    let in_ride : s < length ride = omega (arith, in_ready, c.requires.same, ap length c.as_slice-ride.ensures.value) in
    let low = low_of ride ready s l c.lower_of-arrived.result in_ride c.loop-stop-test.true
    c.lower_of-arrived.ensures h in
    let fits : arrival (lane l (labels_in (λ (row : List ℕ). row) ride))
    (lane l (labels_in (λ (row : List ℕ). row) ready)) s ≤ NEVER =
    rw (c.as_slice-ride.ensures.value, c.as_slice-ready.ensures.value) (c.requires.fits l s h in_ready) in
    omega (arith, low, fits)

pub since-requires-clause-later : goal.since-requires-clause-later
since-requires-clause-later c l h reached =
    let s = c.loop-stop.stop in
    let ride = c.as_slice-ride.result.now in
    let ready = c.as_slice-ready.result.now in
    let in_ready : s < length c.args.workspace.now.ready.labels.items =
    omega (arith, c.loop-stop-test.true, ap length c.as_slice-ready.ensures.value) in
    let in_ride : s < length ride = omega (arith, in_ready, c.requires.same, ap length c.as_slice-ride.ensures.value) in
    let low = low_of ride ready s l c.lower_of-arrived.result in_ride c.loop-stop-test.true
    c.lower_of-arrived.ensures h in
    let late : arrival (lane l (labels_in (λ (row : List ℕ). row) ride))
    (lane l (labels_in (λ (row : List ℕ). row) ready)) s ≢ NEVER →
    slice_index c.args.departures l ≤ arrival (lane l (labels_in (λ (row : List ℕ). row) ride))
    (lane l (labels_in (λ (row : List ℕ). row) ready)) s =
    rw (c.as_slice-ride.ensures.value, c.as_slice-ready.ensures.value) (c.requires.since l s h in_ready) in
    let then = late (λ e. reached (low ∙ e)) in
    omega (arith, low, then)

pub loop-stop-preserved : goal.loop-stop-preserved
loop-stop-preserved c =
    let s = c.loop-stop.stop in
    let w = c.args.batches in
    let b = c.args.at in
    let old = c.loop-stop.invariant in
    let rows = c.loop-stop.labels in
    let times = c.since.result in
    let ride = c.as_slice-ride.result.now in
    let ready = c.as_slice-ready.result.now in
    let in_ready : s < length c.args.workspace.now.ready.labels.items =
    omega (arith, c.loop-stop-test.true, ap length c.as_slice-ready.ensures.value) in
    let in_ride : s < length ride = omega (arith, in_ready, c.requires.same, ap length c.as_slice-ride.ensures.value) in
    let position = position_before w s (length c.args.workspace.now.ready.labels.items) b in_ready c.requires.at in
    let room : s * w + b < length rows = omega (arith, position, old.same, c.requires.room) in
    let label : ℕ → ℕ → ℕ = λ l p. arrival (lane l (labels_in (λ (row : List ℕ). row) ride))
    (lane l (labels_in (λ (row : List ℕ). row) ready)) p in
    record {
      same = length-set rows (s * w + b) times ∙ old.same;
      written = λ l p h below. elim (cases_lt p s) [
        | inl less ↦
            let kept = apart rows times w s b p b c.requires.at c.requires.at (λ e. let same = e.0 in omega arith) in
            subst (λ (row : List ℕ). IsSinceTo NEVER (slice_index c.args.departures l) (label l p) (slice_index row l))
            (sym kept) (old.written l p h less)
        | inr ge ↦
            let e : p ≡ s = omega arith in
            let here = placed rows times w s b room in
            let low = low_of ride ready s l c.lower_of-arrived.result in_ride c.loop-stop-test.true
            c.lower_of-arrived.ensures h in
            rw e (subst (λ (row : List ℕ). IsSinceTo NEVER (slice_index c.args.departures l) (label l s)
            (slice_index row l)) (sym here)
            (subst (λ (x : ℕ). IsSinceTo NEVER (slice_index c.args.departures l) x (slice_index times l)) low
            (c.since.ensures l h)))
      ];
      kept = λ p k l ne. apart rows times w s b p k c.requires.at l (λ e. ne e.1) ∙ old.kept p k l ne;
    }
