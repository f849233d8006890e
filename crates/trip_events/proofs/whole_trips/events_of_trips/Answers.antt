use Rattle.std.proofs.lemmas.Result.{err_from_is_err_and}
use Rattle.std.specs.Vec.Iter.{into_iter_items}
use Rattle.trip_events.proofs.EventFacts.{tells_trip}
use Rattle.trip_events.proofs.whole_trips.events_of_trips.Goals as goal

pub returns-in_err-events-clause-fault : goal.returns-in_err-events-clause-fault
returns-in_err-events-clause-fault c =
    let (e, is, same_error) = err_from_is_err_and c.from_residual-in_err-events.result
    c.from_residual-in_err-events.ensures.1 in
    let told = rw (
      c.as_slice-in-loop-trip_times.ensures.value,
      c.into_vec-records.ensures,
    ) at c.in_err-events.ensures.fault in
    rw (is, same_error)
    (tells_trip _ c.in-Some.trip_times c.args.trips.items (into_iter_items c.loop-trip_times.trip_times-iterator)
    (into_iter_items c.next.new.self) c.loop-trip_times.invariant.0 c.in-Some.ensures.steps.0 told)
