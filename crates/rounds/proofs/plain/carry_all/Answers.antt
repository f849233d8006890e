use Rattle.std.proofs.Common.{rules, length, refl}
use Rattle.std.proofs.lemmas.Option.{slice_get_read}
use Rattle.trip_lanes.proofs.TripByEvents.{carry_one, carry_each}
use Rattle.rounds.proofs.plain.carry_all.Goals as goal

pub loop-trip-preserved : goal.loop-trip-preserved
loop-trip-preserved c =
    let trips = c.args.trips.now in
    record {
      same = search rules;
      lowered = carry_one c.args.ready.now trips c.loop-trip.trip-index c.trip-item.result
          (slice_get_read trips (length trips) c.loop-trip.trip-index c.trip-item.result refl c.loop-trip-test.true
          c.trip-item.is) c.loop-trip.invariant.lowered c.carry.ensures;
    }

pub returns : goal.returns
returns c = carry_each c.args.ready.now c.args.trips.now c.loop-trip.trip-index c.loop-trip-test.false
    c.loop-trip.invariant.lowered
