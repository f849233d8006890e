use Rattle.std.proofs.Common.{◌≤◌, ◌+◌, ◌-◌, ◌∙◌, ◌++◌, List, length, refl, drop, take, length-drop, arith, sym, ap}
use Rattle.std.proofs.lemmas.List.{append-nil, length-take}
use Rattle.timetable.specs.declared.trips.Event.{Event}
use Rattle.trip_events.specs.Fill.{nearest}
use Rattle.trip_events.specs.declared.trip_times.StopTime.{StopTime}
use Rattle.trip_events.proofs.FillFacts.{approached_near, filled_is, near_within, nearest_near, none_left}
use Rattle.trip_events.proofs.fill.with_between.Goals as goal
use Rattle.trip_events.proofs.fill.with_between.Goals.{in-Some, in-None}

pub event_at-requires-clause-after : goal.event_at-requires-clause-after
event_at-requires-clause-after c =
    let xs = c.args.trip_times.now in
    let few : length xs ≤ 8000000 = c.requires in
    elim c.match-stop_time.branch [
      | in-Some w ↦
          let rest : List StopTime = take (length xs - (c.loop-i.i + 1)) (drop (c.loop-i.i + 1) xs) in
          let short : length rest ≤ 8000000 = omega (
            arith,
            length-take (length xs - (c.loop-i.i + 1)) (drop (c.loop-i.i + 1) xs),
          ) in
          rw (w.after-is, w.nearest-after.ensures)
          (near_within (nearest rest) (length rest) 8000000 short (nearest_near rest))
      | in-None w ↦
          let short : length (drop c.loop-i.i xs) ≤ 8000000 = omega (arith, length-drop c.loop-i.i xs) in
          rw (w.after-is, w.approached-after.ensures, c.loop-i.invariant.0)
          (approached_near (nearest (drop c.loop-i.i xs)) 8000000
          (near_within (nearest (drop c.loop-i.i xs)) (length (drop c.loop-i.i xs)) 8000000 short
          (nearest_near (drop c.loop-i.i xs))))
    ]

pub returns : goal.returns
returns c =
    sym (append-nil c.loop-i.events.items) ∙ sym
    (ap (λ (l : List Event). c.loop-i.events.items ++ l)
    (none_left c.loop-i.before c.loop-i.i c.args.trip_times.now c.loop-i-test.false))
    ∙ c.loop-i.invariant.1 ∙ filled_is c.args.trip_times.now

pub event_at-requires-clause-before : goal.event_at-requires-clause-before
event_at-requires-clause-before c =
    let few : c.loop-i.i ≤ 8000000 = omega (arith, c.requires, c.loop-i-test.true) in
    near_within c.loop-i.before c.loop-i.i 8000000 few c.loop-i.invariant.2

pub nearer-before-requires : goal.nearer-before-requires
nearer-before-requires c =
    let few : c.loop-i.i ≤ 8000000 = omega (arith, c.requires, c.loop-i-test.true) in
    near_within c.loop-i.before c.loop-i.i 8000000 few c.loop-i.invariant.2

pub loop-i-init : goal.loop-i-init
loop-i-init c = (c.nearest-next.ensures, rw c.in_ok-events.ensures.items refl, tt)
