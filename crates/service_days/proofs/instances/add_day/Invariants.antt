use Rattle.std.proofs.Common.{◌≡◌, ◌++◌, ℕ, take}
use Rattle.std.specs.List.{enumerate_from, flat_map}
use Rattle.gtfs_tables.specs.declared.trip.FeedTrip.{FeedTrip}
use Rattle.service_days.specs.Instances.{runs_if}
use Rattle.service_days.proofs.instances.add_day.Given as goal

abbrev pub invariant-loop-number : goal.invariant-loop-number
invariant-loop-number l = l.runs ≡ l.fn.runs ++ flat_map
    (λ (at : ℕ × FeedTrip). runs_if l.feed l.day.number l.base at.0 at.1)
    (take l.number (enumerate_from 0 l.feed.trips))
