use Rattle.std.proofs.Common.{◌≡◌, List, get_or, ap, arith}
use Rattle.timetable.specs.declared.trips.Event.{Event}
use Rattle.timetable.specs.Numbering.{number_in}
use Rattle.timetable.specs.Renumbering.{renumbered_trip}
use Rattle.timetable.proofs.MappedLists.{mapped_more}
use Rattle.timetable.proofs.numbering.renumber_trips.Goals as goal

pub loop-trip-preserved : goal.loop-trip-preserved
loop-trip-preserved c =
    let f = renumbered_trip (number_in c.args.numbers.now) in
    let i = c.loop-trip.trip-index in
    let t = get_or c.loop-trip.trips i c.trip-item.result in
    let moved : record { route = t.route; name = t.name; events = c.renumber.new.self } ≡ f t =
    ap (λ (es : List Event). record { route = t.route; name = t.name; events = es }) c.renumber.ensures in
    rw c.loop-trip.invariant (mapped_more f c.args.trips.now i c.trip-item.result _ (omega arith)
    (rw c.loop-trip.invariant at moved))
