use Rattle.service_days.proofs.RunLists.{all_at}
use Rattle.std.specs.Prelude.{All}
use Rattle.timetable.specs.Trips.{EventsRise}
use Rattle.gtfs_tables.specs.Feed.{IsDeparting}
use Rattle.gtfs_tables.specs.declared.trip.FeedTrip.{FeedTrip}
use Rattle.scenarios.proofs.shifted_times.is_last_too_far.Goals as goal

pub is_in_range-requires-clause-rise : goal.is_in_range-requires-clause-rise
is_in_range-requires-clause-rise c = all_at (λ (t : FeedTrip). EventsRise t.events) c.args.feed.now.trips
    c.in-Shift.trip c.trip.result.now c.trip.ensures c.known.ensures.rise

pub is_in_range-requires-clause-rows : goal.is_in_range-requires-clause-rows
is_in_range-requires-clause-rows c = all_at (λ (t : FeedTrip). All IsDeparting t.departures) c.args.feed.now.trips
    c.in-Shift.trip c.trip.result.now c.trip.ensures c.known.ensures.departing
