use Rattle.std.proofs.Common.{◌∙◌, ◌<◌, ℕ, List, length, set, inr, arith, sym, ap, subst}
use Rattle.std.specs.Prelude.{IfSome}
use Rattle.csv.specs.Records.{fields_of}
use Rattle.trip_events.specs.TripTimes.{has_number}
use Rattle.trip_events.specs.StopTimes.{TimeRow, of_trip, row_at, stop_times_of, trip_of}
use Rattle.trip_events.specs.declared.trip_times.StopTime.{StopTime}
use Rattle.trip_events.proofs.TimeFacts.{has_same, no_fault, stop_times_more, tells_duplicate, tells_trip_stop}
use Rattle.trip_events.proofs.TimeFacts.{tells_visit}
use Rattle.trip_events.proofs.stop_times.TimeReaderRecordReader.add.Goals as goal

pub returns-in-Err-clause-fault : goal.returns-in-Err-clause-fault
returns-in-Err-clause-fault c start before at is =
    let r : TimeRow = row_at c.args.self.now.columns (fields_of c.args.row.now) in
    let few : length before < 8000000 = omega (arith, at, c.if-at.false) in
    inr (rw (c.at-in-Err.ensures, at) (tells_trip_stop c.args.self.now.trips.now c.args.self.now.stops.now before r few
    c.in-Err.what c.in-Err.ensures.fault))

pub returns-in_default-clause-fault : goal.returns-in_default-clause-fault
returns-in_default-clause-fault c start before at is =
    let trips = c.args.self.now.trips.now in
    let stops = c.args.self.now.stops.now in
    let r : TimeRow = row_at c.args.self.now.columns (fields_of c.args.row.now) in
    let few : length before < 8000000 = omega (arith, at, c.if-at.false) in
    let (placed, of, stop, sequence) = c.in-Ok.ensures.good in
    let same = has_same trips stops c.args.table.now.trips.items before r is c.in-Ok.trip_stop.trip of
    c.in-Ok.ensures.inside.0 c.index_mut-trip_times.result.now c.index_mut-trip_times.ensures.value
    c.in-Ok.trip_stop.sequence in
    let again = sym (ap (λ (n : ℕ). has_number n (of_trip (trip_of trips r) (stop_times_of trips stops before)))
    sequence) ∙ sym same ∙ c.in_default.ensures.taken in
    inr (rw (c.at-in_default.ensures, at) (tells_duplicate trips stops before r few placed again))

pub returns-in-Err-visit-clause-fault : goal.returns-in-Err-visit-clause-fault
returns-in-Err-visit-clause-fault c start before at is =
    let trips = c.args.self.now.trips.now in
    let stops = c.args.self.now.stops.now in
    let r : TimeRow = row_at c.args.self.now.columns (fields_of c.args.row.now) in
    let few : length before < 8000000 = omega (arith, at, c.if-at.false) in
    let (placed, of, stop, sequence) = c.in-Ok.ensures.good in
    let same = has_same trips stops c.args.table.now.trips.items before r is c.in-Ok.trip_stop.trip of
    c.in-Ok.ensures.inside.0 c.index_mut-trip_times.result.now c.index_mut-trip_times.ensures.value
    c.in-Ok.trip_stop.sequence in
    let new = sym (ap (λ (n : ℕ). has_number n (of_trip (trip_of trips r) (stop_times_of trips stops before))) sequence)
    ∙ sym same ∙ c.in-Some.ensures.free.absent in
    inr (rw (c.at-in-Err-visit.ensures, at) (tells_visit trips stops before r few placed new
    c.in-Err-visit.what c.in-Err-visit.ensures.fault))

pub returns-clause-good : goal.returns-clause-good
returns-clause-good c start before at is =
    let trips = c.args.self.now.trips.now in
    let stops = c.args.self.now.stops.now in
    let r : TimeRow = row_at c.args.self.now.columns (fields_of c.args.row.now) in
    let few : length before < 8000000 = omega (arith, at, c.if-at.false) in
    let (placed, of, stop, sequence) = c.in-Ok.ensures.good in
    let (visited, times, board, alight) = c.in-Ok-visit.ensures.good in
    let within = c.in-Ok.ensures.inside.0 in
    let here = c.index_mut-trip_times.ensures.value in
    let old : List StopTime = c.index_mut-trip_times.result.now in
    let t : ℕ = c.in-Ok.trip_stop.trip in
    let same = has_same trips stops c.args.table.now.trips.items before r is t of within old here
    c.in-Ok.trip_stop.sequence in
    let new = sym (ap (λ (n : ℕ). has_number n (of_trip (trip_of trips r) (stop_times_of trips stops before))) sequence)
    ∙ sym same ∙ c.in-Some.ensures.free.absent in
    let inside = subst (λ o. IfSome o (λ (n : ℕ). n < length stops)) stop c.in-Ok.ensures.inside.1 in (
      no_fault trips stops before r few placed new visited,
      stop_times_more trips stops c.args.table.now.trips.items before r is t of within old here _ _ c.requires.room.1
          few
          (λ k. record {
            sequence = sequence k;
            at = at k;
            stop = stop k;
            times = times k;
            board = board k;
            alight = alight k;
          }) inside
          (ap (set c.args.table.now.trips.items t) c.in_ok-insert.ensures.put),
    )
