-- A network in which nothing can be wrong is refused only where memory runs out.
use Rattle.std.proofs.Common.{◌≡◌, ◌≤◌, ◌<◌, ℕ, All, refl, length, arith, List, []}
use Rattle.std.proofs.lemmas.List.{length-replicate}
use Rattle.scenarios.proofs.MovedTrips.{only_memory}
use Rattle.timetable.specs.declared.trips.StopNo.{StopNo}
use Rattle.timetable.specs.declared.trips.Event.{Event}
use Rattle.timetable.specs.declared.faults.NetFault.{NetFault}
use Rattle.timetable.specs.declared.faults.NetFault.TheVariants.{StopRange, TimesGoBack, TooLarge, Memory}
use Rattle.timetable.specs.Trips.{EventsRise}
use Rattle.timetable.specs.Faults.{IsFeetFault, IsNetFault}
use Rattle.timetable.specs.Footpaths.{FeetData, FeetInRange, FeetWithin}
use Rattle.gtfs_tables.specs.Feed.{FeedData, IsFeed}
use Rattle.studies.specs.MinuteLine.{network_once}
use Rattle.studies.proofs.TripsOnce.{All-runs_from, events-runs_from, length-runs_from}

pub memory_alone_feet : (e : NetFault) (n : ℕ) (feet : FeetData) → FeetInRange n feet → FeetWithin feet →
    IsFeetFault e n feet → e ≡ Memory
memory_alone_feet StopRange n feet range within h = absurd (h range)
memory_alone_feet TimesGoBack n feet range within h = absurd h
memory_alone_feet TooLarge n feet range within h = absurd (h.1 within)
memory_alone_feet Memory n feet range within h = refl

on_axis : (events : List Event) → All (λ e. (e.arrive ≤ 604799) × (e.depart ≤ 604799)) events →
    All (λ e. e.depart < 16777216) events
on_axis events all k e lt = let le = (all k e lt).1 in omega arith

-- the network of a feed whose trips each run once
pub memory_alone_once : (e : NetFault) (feed : FeedData) → IsFeed feed → IsNetFault e (network_once feed) → e ≡ Memory
memory_alone_once e feed is h =
    only_memory e (network_once feed)
    (record {
      lists = length-replicate {A = List (StopNo × ℕ)} (length feed.stops) [];
      events = All-runs_from (λ events. All (λ x. x.stop.0 < length feed.stops) events) 0 feed.trips is.at_stops;
    })
    (All-runs_from EventsRise 0 feed.trips is.rise)
    (record {
      few = let same = length-runs_from 0 feed.trips in omega (arith, is.few_trips);
      events = let same = events-runs_from 0 feed.trips in omega (arith, is.few_events);
      axis = All-runs_from (λ events. All (λ x. x.depart < 16777216) events) 0 feed.trips
          (λ k t lt. on_axis _ (is.in_time k t lt));
    })
    h
