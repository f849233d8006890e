use Rattle.std.proofs.Common.{◌≡◌, ◌<◌, ◌∷◌, [], Some, get_or, length, map, slice_get, arith, refl, ap}
use Rattle.std.proofs.lemmas.List.{length-append}
use Rattle.std.specs.declared.vec.Vec.{Vec}
use Rattle.std.specs.declared.alloc.Global.{Global}
use Rattle.table_files.specs.declared.feed_trips.TripNumbers.{TripNumbers}
use Rattle.table_files.specs.declared.frequencies.Departures.{Departures}
use Rattle.gtfs_tables.specs.declared.trip.FeedTrip.{FeedTrip}
use Rattle.gtfs_tables.proofs.FeedTrips.{trip_of, trips_step}
use Rattle.gtfs_tables.proofs.read.trips_of.Goals as goal

pub loop-events-preserved : goal.loop-events-preserved
loop-events-preserved c =
    let before = c.loop-events.invariant in
    let (left, shorter) = c.in-Some.ensures.steps in
    let longer = ap length left in
    let rows = c.in-Some-next.ensures.items in
    let fewer = ap length rows in
    let done = c.loop-events.done.items in
    let n : TripNumbers = c.index-numbers.result.now in
    let t : FeedTrip = trip_of c.new-id.result n c.in-Some.events c.new.result in
    let id : Some c.in-Some-id.id.now ≡ slice_get c.args.trips.now.ids (length done) =
    rw (c.len-in-loop-events.ensures, c.loop-events.done.ok.0) at c.in-Some-id.ensures in
    let others = ap (map (λ (r : Vec Departures Global). r.items)) rows in
    let within : length done < length c.args.trips.now.numbers.items =
    omega (arith, before.count, longer, c.requires.numbers) in
    let here : n ≡ get_or c.args.trips.now.numbers.items (length done) n =
    rw (c.len-in-loop-events-2.ensures, c.loop-events.done.ok.0) at c.index-numbers.ensures in
    rw c.in_ok-push.ensures.items (record {
      count = omega (arith, before.count, longer, length-append done (t ∷ []));
      left = omega (arith, before.left, shorter, longer);
      as_many = omega (arith, before.as_many, longer, fewer);
      trips = trips_step c.args.trips.now.ids c.args.trips.now.numbers.items c.in-Some-id.id.now n c.in-Some.events _ _
          _ _ _ done t _ id within here left others (rw (
            c.new-id.ensures,
            c.in_ok-from_slice.ensures.items,
            c.new.ensures,
          ) refl) before.trips;
    })
