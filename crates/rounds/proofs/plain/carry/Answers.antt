use Rattle.std.proofs.Common.{◌≡◌, length, slice_get, Some, get_or, false, arith, rules, ap, subst}
use Rattle.std.proofs.lemmas.Option.{slice_get-get_or}
use Rattle.timetable.specs.declared.trips.Event.{Event}
use Rattle.trip_lanes.proofs.TripByEvents.{carry_alight, carry_pass, boards_still, boards_here, boards_not, carry_all}
use Rattle.rounds.proofs.plain.carry.Goals as goal
use Rattle.rounds.proofs.plain.carry.Goals.{then-aboard+then-event, else-aboard, else-aboard-via-then-aboard+else-event}
use Rattle.rounds.proofs.plain.carry.Goals.{else-aboard-via-else-aboard, then-event-2+then-ready-stop, else-event-2}
use Rattle.rounds.proofs.plain.carry.Goals.{else-event-2-via-then-event-2+else-ready-stop}
use Rattle.rounds.proofs.plain.carry.Goals.{else-event-2-via-else-event-2}

pub loop-event-preserved : goal.loop-event-preserved
loop-event-preserved c =
    let ready = c.args.ready.now in
    let t = c.args.trip.now in
    let x = c.loop-event.event-index in
    let xs = c.as_slice-event-items.result.now in
    let none : Event = record { stop = record { 0 = 0 }; arrive = 0; depart = 0; board = false; alight = false } in
    let here = get_or xs x none in
    let at_x = subst (λ ys. slice_get ys x ≡ Some (get_or xs x none)) c.as_slice-event-items.ensures
    (slice_get-get_or xs x none c.loop-event-test.true) in
    let before = c.loop-event.invariant in
    record {
      same = search rules;
      lowered = elim c.if-aboard.branch [
        | then-aboard+then-event w ↦
            rw w.ride-is (carry_alight ready t x here at_x (before.aboard w.if-aboard.true) w.if-event.true
            before.lowered w.lower.ensures)
        | else-aboard w ↦ rw w.ride-is (carry_pass ready t x here at_x (elim w.else-aboard.branch [
          | else-aboard-via-then-aboard+else-event w' ↦ (λ b off. cc (off, w'.if-event.false))
          | else-aboard-via-else-aboard w' ↦ (λ b off. before.waiting w'.if-aboard.false b)
        ]) before.lowered)
      ];
      aboard = elim c.if-event-2.branch [
        | then-event-2+then-ready-stop w ↦ λ on. boards_here ready t x here at_x w.if-event-2.true w.if-ready-stop.true
        | else-event-2 w ↦ λ on. boards_still ready t x here at_x (before.aboard (cc (on, w.aboard-is)))
      ];
      waiting = elim c.if-event-2.branch [
        | then-event-2+then-ready-stop w ↦ λ off. cc (off, w.aboard-is)
        | else-event-2 w ↦ λ off. boards_not ready t x here at_x (before.waiting (cc (off, w.aboard-is)))
            (elim w.else-event-2.branch [
              | else-event-2-via-then-event-2+else-ready-stop w' ↦ (λ on early. omega (arith, w'.if-ready-stop.false))
              | else-event-2-via-else-event-2 w' ↦ (λ on early. cc (on, w'.if-event-2.false))
            ])
      ];
    }

pub returns : goal.returns
returns c = carry_all c.args.ready.now c.args.trip.now c.loop-event.event-index
    (omega (arith, ap length c.as_slice-event-items.ensures)) c.loop-event.invariant.lowered
