use Rattle.std.proofs.Common.{rules, ◌≡◌, ◌<◌, ◌+◌, ℕ, List, length, slice_get, get_or, Some, false, arith, ap, subst}
use Rattle.std.proofs.lemmas.Option.{slice_get-get_or}
use Rattle.timetable.specs.declared.trips.Event.{Event}
use Rattle.timetable.specs.RoundSteps.{Lowers}
use Rattle.trip_lanes.proofs.TripByEvents.{CarriesBelow, carry_all}
use Rattle.trip_lanes.specs.Lane.{lane}
use Rattle.trip_lanes.proofs.LoweredStop.{lane_old}
use Rattle.trip_lanes.proofs.TripInOneLane.{lane_alight, lane_pass, lane_board, lane_shut, lane_falls, marks_then}
use Rattle.trip_lanes.proofs.plain.carry_trip.Goals as goal
use Rattle.trip_lanes.proofs.plain.carry_trip.Goals.{then-event, else-event, then-event-2, else-event-2}

none : Event
none = record { stop = record { 0 = 0 }; arrive = 0; depart = 0; board = false; alight = false }

-- the event of the iteration
at_x : (xs es : List Event) (x : ℕ) → xs ≡ es → x < length xs → slice_get es x ≡ Some (get_or xs x none)
at_x xs es x e l = subst (λ ys. slice_get ys x ≡ Some (get_or xs x none)) e (slice_get-get_or xs x none l)

pub lower_lanes-requires-clause-fits : goal.lower_lanes-requires-clause-fits
unfolding none
lower_lanes-requires-clause-fits c l h =
    let p = (get_or c.as_slice-event-items.result.now c.loop-event.event-index none).stop.0 in
    let falls = lane_falls (lane l c.args.ride.now) (lane l c.loop-event.ride)
    (c.loop-event.invariant.lanes l h).lowered p in
    let fits = c.requires.fits l p h in
    omega arith

pub bounds-ready-stop : goal.bounds-ready-stop
unfolding none
bounds-ready-stop c =
    let x = c.loop-event.event-index in
    let xs = c.as_slice-event-items.result.now in
    let stop = c.requires.stops x (get_or xs x none)
    (at_x xs c.args.trip.now.events x c.as_slice-event-items.ensures c.loop-event-test.true) in
    omega (arith, c.requires.ready)

pub loop-event-preserved : goal.loop-event-preserved
unfolding none
loop-event-preserved c =
    let x = c.loop-event.event-index in
    let xs = c.as_slice-event-items.result.now in
    let t = c.args.trip.now in
    let here = get_or xs x none in
    let at = at_x xs t.events x c.as_slice-event-items.ensures c.loop-event-test.true in
    let before = c.loop-event.invariant in
    let got_off : (k : ℕ) → k < 16 → Lowers (CarriesBelow (lane k c.args.ready.now) t (x + 1)) (lane k c.args.ride.now)
    (lane k c.if-event.ride) =
    λ k l. elim c.if-event.branch [
      | then-event w ↦ rw w.ride-is (lane_alight (lane k c.args.ready.now) t x here at w.if-event.true
          (before.lanes k l) (w.lower_lanes.ensures.lanes k l))
      | else-event w ↦ rw w.ride-is (lane_pass (lane k c.args.ready.now) t x here at w.if-event.false
          (before.lanes k l))
    ] in
    record {
      same = search rules;
      marked = elim c.if-event.branch [ then-event w ↦ search rules | else-event w ↦ search rules ];
      lanes = λ k l. elim c.if-event-2.branch [
        | then-event-2 w ↦
            let stop = c.requires.stops x here at in
            let read = lane_old c.args.ready.now here.stop.0 k (omega (arith, stop, c.requires.ready)) in
            rw (w.bar-is, w.board-aboard.ensures k l, ← read)
            (lane_board (lane k c.args.ready.now) t x here at w.if-event-2.true (before.lanes k l)
            (got_off k l))
        | else-event-2 w ↦ rw w.bar-is (lane_shut (lane k c.args.ready.now) t x here at w.if-event-2.false
            (before.lanes k l) (got_off k l))
      ];
      marks = elim c.if-event.branch [
        | then-event w ↦ rw (w.ride-is, w.marked-is)
            (marks_then c.args.ride.now c.loop-event.ride w.lower_lanes.new.ride c.args.marked.now
            c.loop-event.marked w.lower_lanes.new.marked
            (λ l p h. lane_falls (lane l c.args.ride.now) (lane l c.loop-event.ride) (before.lanes l h).lowered p)
            (λ l p h. lane_falls (lane l c.loop-event.ride) (lane l w.lower_lanes.new.ride)
            (w.lower_lanes.ensures.lanes l h) p)
            before.marks w.lower_lanes.ensures.marks)
        | else-event w ↦ rw (w.ride-is, w.marked-is) before.marks
      ];
    }

pub returns-clause-lanes : goal.returns-clause-lanes
returns-clause-lanes c l h =
    carry_all (lane l c.args.ready.now) c.args.trip.now c.loop-event.event-index
    (omega (arith, ap length c.as_slice-event-items.ensures)) (c.loop-event.invariant.lanes l h).lowered
