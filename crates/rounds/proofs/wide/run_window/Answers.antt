use Rattle.std.proofs.Common.{◌≡◌, ◌≢◌, ℕ, ◌+◌, ◌-◌, ◌*◌, ◌/◌, ◌%◌, ◌<◌, inl, inr, [], List, length, slice_index}
use Rattle.std.proofs.Common.{slice_index_or, ap, subst, sym, ◌∙◌, arith}
use Rattle.std.proofs.lemmas.Bool.{cases_eq}
use Rattle.timetable.specs.declared.least.TheConstants.{NEVER}
use Rattle.timetable.specs.Least.{IsLeastOrNever}
use Rattle.timetable.specs.Journeys.{IsDuration}
use Rattle.trip_lanes.specs.Since.{IsSinceTo}
use Rattle.rounds.specs.Batches.{IsBoundingDeparture, departure_at}
use Rattle.rounds.specs.Searches.{arrival_in}
use Rattle.rounds.specs.Table.{batches_of, label_of}
use Rattle.rounds.proofs.WideLabels.{all_fit, all_least, all_since}
use Rattle.rounds.proofs.wide.run_window.Goals as goal

pub loop-i-init : goal.loop-i-init
loop-i-init c =
    record {
      workspace = c.requires.workspace;
      room = c.requires.room;
      departure = record { last = λ _. c.in_ok-bounds.ensures.departure; followed = λ more. absurd (omega (arith, more)) };
      bounds = λ _. c.in_ok-bounds.ensures.bounds NEVER;
      each = λ p j there le l. absurd (omega (arith, le, l));
    }

pub write_batch-requires-clause-at : goal.write_batch-requires-clause-at
write_batch-requires-clause-at c =
    let few = c.requires.few in
    omega (arith, few, c.loop-i-test.true)

pub write_batch-requires-clause-fits : goal.write_batch-requires-clause-fits
write_batch-requires-clause-fits c l p h within =
    all_fit c.args.query c.known.ensures c.requires.query
    (16 * ((length c.args.query.times.now + 15) / 16 - 1 - c.loop-i.i)) c.run_batch-batch.result
    c.run_batch-batch.new.workspace c.run_batch-batch.ensures.arrivals l p h
    (omega (arith, within, c.run_batch-batch.ensures.workspace.ready))

pub write_batch-requires-clause-since : goal.write_batch-requires-clause-since
write_batch-requires-clause-since c l p h within =
    all_since c.args.query c.known.ensures c.requires.query
    (16 * ((length c.args.query.times.now + 15) / 16 - 1 - c.loop-i.i)) c.run_batch-batch.result
    c.run_batch-batch.new.workspace c.run_batch-batch.ensures.arrivals l p h
    (omega (arith, within, c.run_batch-batch.ensures.workspace.ready))

pub loop-i-preserved : goal.loop-i-preserved
loop-i-preserved c =
    let q = c.args.query in
    let n = q.network.now in
    let count = length q.times.now in
    let batches = (count + 15) / 16 in
    let i = c.loop-i.i in
    let at : ℕ = batches - 1 - i in
    let turn = c.loop-i-test.true in
    let old = c.loop-i.invariant in
    let are = c.run_batch-batch.ensures in
    let chunks = batches_of c.args.minutes in
    let new = c.write_batch.new.labels in
    let write = c.write_batch.ensures in
    let few = c.requires.few in
    let within : (p : ℕ) → p < n.stops → p < length c.run_batch-batch.new.workspace.ready.labels.items =
    λ p there. omega (arith, there, are.workspace.ready) in
    let since : (p j : ℕ) → p < n.stops → at ≡ j / 16 →
    IsSinceTo NEVER (slice_index c.run_batch-batch.result.departures (j % 16))
    (arrival_in (λ (row : List ℕ). row) c.run_batch-batch.new.workspace (j % 16) p)
    (label_of c.args.minutes new p j) = λ p j there here.
    subst (λ (x : ℕ). IsSinceTo NEVER (slice_index c.run_batch-batch.result.departures (j % 16))
    (arrival_in (λ (row : List ℕ). row) c.run_batch-batch.new.workspace (j % 16) p)
    (slice_index (slice_index_or new (p * chunks + x) []) (j % 16))) here
    (write.written (j % 16) p (omega arith) (within p there)) in
    let kept : (p j : ℕ) → j < 16 * chunks → at ≢ j / 16 →
    label_of c.args.minutes new p j ≡ label_of c.args.minutes c.loop-i.labels p j =
    λ p j l other. ap (λ (row : List ℕ). slice_index row (j % 16))
    (write.kept p (j / 16) (omega (arith, l)) (λ e. other (sym e))) in
    record {
      workspace = are.workspace;
      room = record {
        size = write.same ∙ old.room.size;
        unused = λ p j there past l. elim (cases_eq at (j / 16)) [
          | inl here ↦
              (since p j there here).never_so
              (are.arrivals.unused (j % 16) p (omega arith) (omega (arith, here, past)) there)
          | inr other ↦ kept p j l other ∙ old.room.unused p j there past l
        ];
      };
      departure =
          let e : 16 * (batches - 1 - i) ≡ 16 * (batches - (i + 1)) = omega arith in
          subst (λ (x : ℕ). IsBoundingDeparture q x c.run_batch-batch.new.bounds.departure) e are.departure;
      bounds = λ more. are.bounds (omega (arith, more));
      each = λ p j there le l. elim (cases_eq at (j / 16)) [
        | inl here ↦
            let place : 16 * at + j % 16 ≡ j = omega (arith, here) in
            subst (λ (x : ℕ). IsLeastOrNever (IsDuration n q.origin.0 (departure_at q x) q.rides p)
            (label_of c.args.minutes new p j)) place
            (all_least q c.known.ensures c.requires.query (16 * at) c.run_batch-batch.result
            c.run_batch-batch.new.workspace are.arrivals (j % 16) p (omega arith) there (omega (arith, place, l))
            (label_of c.args.minutes new p j) (since p j there here))
        | inr other ↦
            subst (λ (y : ℕ). IsLeastOrNever (IsDuration n q.origin.0 (departure_at q j) q.rides p) y)
            (sym (kept p j (omega (arith, l, few)) other))
            (old.each p j there (omega (arith, le, other, turn)) l)
      ];
    }

pub returns : goal.returns
returns c =
    let inv = c.loop-i.invariant in
    record {
      size = inv.room.size;
      each = λ p j there l. inv.each p j there (omega (arith, c.loop-i-test.false)) l;
      unused = inv.room.unused;
    }
