use Rattle.std.proofs.Common.{◌∙◌, ◌++◌, List, Some, sym, ap}
use Rattle.std.proofs.lemmas.List.{append-nil}
use Rattle.timetable.specs.declared.trips.Event.{Event}
use Rattle.trip_events.proofs.FillFacts.{filled_is, none_left, one_timed}
use Rattle.trip_events.proofs.fill.timed.Goals as goal

pub loop-stop_time-preserved : goal.loop-stop_time-preserved
loop-stop_time-preserved c =
    let (before, is) = c.loop-stop_time.invariant in
    let more = one_timed before c.args.trip_times.now c.loop-stop_time.stop_time-index _ c.in-Some.times
    c.loop-stop_time.events.items _ c.loop-stop_time-test.true c.in-Some.is is in
    (Some (record { times = c.in-Some.times; untimed = 0 }), rw (c.in_ok-push.ensures.items, c.event_with.ensures) more)

pub returns : goal.returns
returns c =
    let (before, is) = c.loop-stop_time.invariant in
    sym (append-nil c.loop-stop_time.events.items)
    ∙ sym (ap (λ (l : List Event). c.loop-stop_time.events.items ++ l)
    (none_left before c.loop-stop_time.stop_time-index c.args.trip_times.now c.loop-stop_time-test.false))
    ∙ is ∙ filled_is c.args.trip_times.now
