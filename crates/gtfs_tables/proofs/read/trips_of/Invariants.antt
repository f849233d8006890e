use Rattle.std.proofs.Common.{◌≡◌, ◌++◌, ◌+◌, drop, length, map}
use Rattle.std.specs.Vec.Iter.{into_iter_items, into_iter_len}
use Rattle.gtfs_tables.specs.Files.{trips_of}
use Rattle.gtfs_tables.proofs.read.trips_of.Given as goal

abbrev pub invariant-loop-events : goal.invariant-loop-events
invariant-loop-events l = record {
  count : length l.done.items + length (into_iter_items l.events-iterator) ≡ length l.trips.ids;
  left : into_iter_len l.events-iterator ≡ length (into_iter_items l.events-iterator);
  as_many : length (into_iter_items l.departures) ≡ length (into_iter_items l.events-iterator);
  trips : l.done.items
      ++ trips_of (drop (length l.done.items) l.trips.ids) (drop (length l.done.items) l.trips.numbers.items)
      (into_iter_items l.events-iterator) (map (λ rows. rows.items) (into_iter_items l.departures))
      ≡ trips_of l.trips.ids l.trips.numbers.items l.fn.events.items (map (λ rows. rows.items) l.fn.departures.items);
}
