use Rattle.std.proofs.Common.{◌≡◌, ◌≤◌, ◌+◌, ◌++◌, length, map}
use Rattle.std.specs.Prelude.{count_by, sum_by}
use Rattle.std.specs.Vec.Iter.{into_iter_items}
use Rattle.trip_events.specs.WholeTrips.{events_of, is_aside, whole_trip_faults}
use Rattle.trip_events.proofs.whole_trips.events_of_trips.Given as goal

abbrev pub invariant-loop-trip_times : goal.invariant-loop-trip_times
invariant-loop-trip_times l =
    (whole_trip_faults (into_iter_items l.trip_times-iterator) ≡ whole_trip_faults l.fn.trips.items)
    × (l.all.items ++ map events_of (into_iter_items l.trip_times-iterator) ≡ map events_of l.fn.trips.items)
    × (l.aside + count_by is_aside (into_iter_items l.trip_times-iterator) ≡ count_by is_aside l.fn.trips.items)
    × (l.aside + length (into_iter_items l.trip_times-iterator) ≤ 1000000)
    × (sum_by length (into_iter_items l.trip_times-iterator) ≤ 8000000)
