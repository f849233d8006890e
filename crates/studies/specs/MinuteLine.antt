-- The line for one minute of the day: the least durations from one stop to all stops, where every trip of the feed
-- runs once at the feed's own times, nobody walks, and no change takes time.
use Rattle.std.specs.Prelude.{◌≡◌, ◌+◌, ◌*◌, ◌==◌, ◌++◌, ℕ, List, [], ◌∷◌, length, map, replicate, position, Some}
use Rattle.std.specs.Prelude.{decimal, if◌then◌else◌}
use Rattle.std.specs.List.{join_with_byte}
use Rattle.std.specs.Str.{bytes_eq}
use Rattle.timetable.specs.Networks.{Net}
use Rattle.timetable.specs.Journeys.{AreLeastDurations}
use Rattle.timetable.specs.declared.trips.Trip.{Trip}
use Rattle.timetable.specs.declared.least.TheConstants.{NEVER}
use Rattle.gtfs_tables.specs.Feed.{FeedData}
use Rattle.gtfs_tables.specs.declared.trip.FeedTrip.{FeedTrip}

-- a trip of a feed, run once at the feed's own times
abbrev pub run_of : ℕ → FeedTrip → Trip
run_of number t = record { route = t.route; name = number; events = t.events }

-- the trips from a number on, each run once
abbrev pub runs_from : ℕ → List FeedTrip → List Trip
runs_from number [] = []
runs_from number (t ∷ rest) = run_of number t ∷ runs_from (number + 1) rest

-- the network in which every trip of a feed runs once, nobody walks and no change takes time
abbrev pub network_once : FeedData → Net
network_once feed = record {
  stops = length feed.stops;
  trips = runs_from 0 feed.trips;
  feet = record { walks = replicate (length feed.stops) []; changes = replicate (length feed.stops) 0 };
}

-- a duration's field: its digits, or nothing where there is none
abbrev pub duration_field : ℕ → List ℕ
duration_field d = if d == NEVER then [] else decimal d

-- the fields joined by commas, and a line feed
abbrev pub text_of : List ℕ → List ℕ
text_of durations = join_with_byte 44 (map duration_field durations) ++ 10 ∷ []

-- the line of a feed, for an origin's identifier, a minute of the day and a number of rides at most
pub record IsMinuteLine (feed : FeedData) (origin : List ℕ) (minute rides : ℕ) (line : List ℕ) : Type 0 where
  pub stop : ℕ
  pub durations : List ℕ
  pub named : position (bytes_eq origin) feed.stops ≡ Some stop
  pub least : AreLeastDurations (network_once feed) stop (60 * minute) rides durations
  pub text : line ≡ text_of durations
