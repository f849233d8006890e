use Rattle.std.proofs.Common.{rules, ◌<◌, [], length, get_or, arith}
use Rattle.std.proofs.lemmas.Option.{slice_get-get_or}
use Rattle.timetable.proofs.KnownParts.{change_short}
use Rattle.timetable.proofs.LowersCompose.{lowers_alike, lowers_none}
use Rattle.trip_lanes.proofs.WalksByStops.{transfer_one, transfer_each}
use Rattle.rounds.proofs.plain.transfer.Goals as goal
use Rattle.rounds.proofs.plain.transfer.Goals.{then-arrived, else-arrived}

pub overflow_add-arrived : goal.overflow_add-arrived
overflow_add-arrived c =
    let short = change_short c.args.feet.now c.known.ensures c.loop-from.from in
    let room = c.requires.labels c.loop-from.from c.if-arrived.true in
    omega (arith, short, room, c.change-change.ensures)

pub walk_from-requires-clause-targets : goal.walk_from-requires-clause-targets
walk_from-requires-clause-targets c k d within =
    let row = c.leaving.result.now in
    let in_range = (c.known.ensures.in_range.walks.rows c.loop-from.from row c.leaving.ensures).targets k
    (get_or row k d) (slice_get-get_or row k d within) in
    omega (arith, in_range.0, c.lower.auto.labels)

pub walk_from-requires-clause-seconds : goal.walk_from-requires-clause-seconds
walk_from-requires-clause-seconds c k d within =
    let row = c.leaving.result.now in
    let short = c.known.ensures.within.walks.rows c.loop-from.from row c.leaving.ensures k (get_or row k d)
    (slice_get-get_or row k d within) in
    let room = c.requires.labels c.loop-from.from c.if-arrived.true in
    omega (arith, short, room)

pub loop-from-preserved : goal.loop-from-preserved
loop-from-preserved c =
    let feet = c.args.feet.now in
    let ride = c.args.ride.now in
    let x = c.loop-from.from in
    record {
      same = search rules;
      lowered = elim c.if-arrived.branch [
        | then-arrived w ↦ rw w.ready-is (transfer_one feet ride x w.leaving.result.now w.leaving.ensures
            c.loop-from.invariant.lowered
            (lowers_alike (λ p y l. (l.0, w.if-arrived.true, omega (arith, l.1, w.change-change.ensures)))
            (λ p y l. (l.0, omega (arith, l.2, w.change-change.ensures))) w.lower.ensures)
            (lowers_alike (λ p y l. (w.if-arrived.true, l)) (λ p y l. l.1) w.walk_from.ensures))
        | else-arrived w ↦
            let within : x < length feet.walks = omega arith in
            rw w.ready-is (transfer_one feet ride x (get_or feet.walks x []) (slice_get-get_or feet.walks x [] within)
            c.loop-from.invariant.lowered
            (lowers_none _ (λ p y l. l.1 w.if-arrived.false))
            (lowers_none _ (λ p y l. l.0 w.if-arrived.false)))
      ];
    }

pub returns : goal.returns
returns c = transfer_each c.args.feet.now c.args.ride.now c.loop-from.from (omega arith) (omega arith)
    c.loop-from.invariant.lowered
