use Rattle.std.proofs.Common.{List, ap, drop, map, sym, ◌+◌, ◌∙◌}
use Rattle.std.proofs.lemmas.List.{at_drop_more}
use Rattle.timetable.specs.Patterns.{mixed_all, place_of}
use Rattle.timetable.specs.declared.trips.Event.{Event}
use Rattle.timetable.proofs.lines.mixed_stops.Goals as goal

pub loop-event-preserved : goal.loop-event-preserved
loop-event-preserved c =
    let events = c.args.events.now in
    let i = c.loop-event.event-index in
    ap (λ mixed. mixed_all mixed (map place_of (drop (i + 1) events))) c.mixed_with-mixed.ensures
    ∙ sym (at_drop_more (λ (rest : List Event). mixed_all c.loop-event.mixed (map place_of rest)) events i _
    c.loop-event-test.true) ∙ c.loop-event.invariant
