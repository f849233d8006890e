use Rattle.std.proofs.Common.{◌≡◌, ◌+◌, length, ap, ◌∙◌}
use Rattle.std.proofs.lemmas.List.{length-replicate}
use Rattle.timetable.specs.declared.least.TheConstants.{NEVER}
use Rattle.timetable.specs.Journeys.{Whereabouts}
use Rattle.rounds.proofs.RoundsReach.{at_start, after_walk, after_ride, after_transfer, none_started, ready_first}
use Rattle.rounds.proofs.RoundsReach.{room_to_change}
use Rattle.rounds.proofs.plain.run_rounds.Goals as goal

pub loop-init : goal.loop-init
loop-init c =
    let n = c.args.network.now in
    let o : Whereabouts = record { stop = c.args.origin.0; time = c.args.depart } in
    let none = length-replicate n.stops NEVER in
    let ride_len : length c.lower.new.labels ≡ n.stops =
    c.lower.ensures.same_length ∙ (ap length c.requires.ride ∙ none) in
    let ready_len : length c.args.ready.now ≡ n.stops = ap length c.requires.ready ∙ none in
    let ride = at_start n c.known.ensures o c.requires.origin c.requires.depart c.lower.new.labels
    (rw c.requires.ride at c.lower.ensures) in
    record {
      rides = ride_len;
      readies = c.walk.ensures.same_length ∙ ready_len;
      ride = ride;
      ready = ready_first n c.known.ensures o c.requires.origin c.requires.depart c.walk.new.ready
          (after_walk n c.known.ensures o c.requires.origin c.requires.depart 0 c.lower.new.labels c.args.ready.now
          c.walk.new.ready ride_len ready_len ride (rw c.feet.ensures at c.walk.ensures)
          (none_started n c.known.ensures o c.requires.origin c.requires.depart 0 c.args.ready.now c.requires.ready));
    }

pub carry_all-requires-clause-stops : goal.carry_all-requires-clause-stops
carry_all-requires-clause-stops c = rw (c.trips.ensures, c.loop.invariant.readies) c.known.ensures.in_range.events

pub transfer-requires-clause-labels : goal.transfer-requires-clause-labels
transfer-requires-clause-labels c =
    let n = c.args.network.now in
    let o : Whereabouts = record { stop = c.args.origin.0; time = c.args.depart } in
    room_to_change n c.known.ensures o c.requires.origin c.requires.depart (c.loop.counter + 1) c.carry_all.new.ride
    (after_ride n c.known.ensures o c.requires.origin c.requires.depart c.loop.counter c.loop.ready c.loop.ride
    c.carry_all.new.ride c.loop.invariant.readies c.loop.invariant.rides c.loop.invariant.ready
    c.loop.invariant.ride (rw c.trips.ensures at c.carry_all.ensures))

pub loop-preserved : goal.loop-preserved
loop-preserved c =
    let n = c.args.network.now in
    let o : Whereabouts = record { stop = c.args.origin.0; time = c.args.depart } in
    let before = c.loop.invariant in
    let ride = after_ride n c.known.ensures o c.requires.origin c.requires.depart c.loop.counter c.loop.ready
    c.loop.ride c.carry_all.new.ride before.readies before.rides before.ready before.ride
    (rw c.trips.ensures at c.carry_all.ensures) in
    let ride_len = c.carry_all.ensures.same_length ∙ before.rides in
    record {
      rides = ride_len;
      readies = c.transfer.ensures.same_length ∙ before.readies;
      ride = ride;
      ready = after_transfer n c.known.ensures o c.requires.origin c.requires.depart c.loop.counter c.carry_all.new.ride
          c.loop.ready c.transfer.new.ready ride_len before.readies ride before.ready
          (rw c.feet-in-loop.ensures at c.transfer.ensures);
    }
