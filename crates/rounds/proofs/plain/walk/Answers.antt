use Rattle.std.proofs.Common.{rules, ◌<◌, [], length, get_or, arith}
use Rattle.std.proofs.lemmas.Option.{slice_get-get_or}
use Rattle.timetable.proofs.LowersCompose.{lowers_alike, lowers_none}
use Rattle.trip_lanes.proofs.WalksByStops.{offer_one, offer_each}
use Rattle.rounds.proofs.plain.walk.Goals as goal
use Rattle.rounds.proofs.plain.walk.Goals.{then-time, else-time}

pub walk_from-requires-clause-targets : goal.walk_from-requires-clause-targets
walk_from-requires-clause-targets c k d within =
    let row = c.leaving.result.now in
    let in_range = (c.known.ensures.in_range.walks.rows c.loop-stop.stop row c.leaving.ensures).targets k
    (get_or row k d) (slice_get-get_or row k d within) in
    omega (arith, in_range.0, c.lower.auto.labels)

pub walk_from-requires-clause-seconds : goal.walk_from-requires-clause-seconds
walk_from-requires-clause-seconds c k d within =
    let row = c.leaving.result.now in
    let short = c.known.ensures.within.walks.rows c.loop-stop.stop row c.leaving.ensures k (get_or row k d)
    (slice_get-get_or row k d within) in
    let room = c.requires.labels c.loop-stop.stop c.if-time.true in
    omega (arith, short, room)

pub loop-stop-preserved : goal.loop-stop-preserved
loop-stop-preserved c =
    let feet = c.args.feet.now.walks in
    let x = c.loop-stop.stop in
    record {
      same = search rules;
      lowered = elim c.if-time.branch [
        | then-time w ↦ rw w.ready-is (offer_one feet c.args.ride.now x w.leaving.result.now w.leaving.ensures
            c.loop-stop.invariant.lowered c.lower.ensures
            (lowers_alike (λ p y l. (w.if-time.true, l)) (λ p y l. l.1) w.walk_from.ensures))
        | else-time w ↦
            let within : x < length feet = omega arith in
            rw w.ready-is (offer_one feet c.args.ride.now x (get_or feet x []) (slice_get-get_or feet x [] within)
            c.loop-stop.invariant.lowered c.lower.ensures
            (lowers_none _ (λ p y l. l.0 w.if-time.false)))
      ];
    }

pub returns : goal.returns
returns c = offer_each c.args.feet.now.walks c.args.ride.now c.loop-stop.stop (omega arith) (omega arith)
    c.loop-stop.invariant.lowered
