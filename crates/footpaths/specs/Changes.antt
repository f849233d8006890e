-- Change times: how long a change between two vehicles at a stop takes, as rows of transfers.txt state it. A file of
-- footpaths states none.
-- (GTFS Schedule reference, transfers.txt: min_transfer_time of a row of type 2 from a stop or a station to itself.)
use Rattle.std.specs.Prelude.{◌==◌, ℕ, Bool, List, [], ◌∷◌, filter, length, map, max, min, if◌then◌else◌}
use Rattle.std.specs.List.{list_any, range_with_len}
use Rattle.timetable.specs.declared.trips.StopNo.{StopNo}
use Rattle.timetable.specs.declared.limits.TheConstants.{MOST_CHANGE_SECONDS}
use Rattle.table_files.specs.declared.transfers.Link.{Link}
use Rattle.table_files.specs.Transfers.{changes_at}
use Rattle.gtfs_tables.specs.Feed.{FeedData}

-- the stop with this number is among some
abbrev pub has_stop : ℕ → List StopNo → Bool
has_stop stop stops = list_any (λ x. x.0 == stop) stops

-- the row states a change time for the stop: its own, or that of its station
abbrev pub is_stated_for : List (List StopNo) → ℕ → Link → Bool
is_stated_for children stop link = has_stop stop (changes_at children link)

-- the times that rows state for the stop
abbrev pub stated_for : List (List StopNo) → List Link → ℕ → List ℕ
stated_for children links stop = map (λ link. link.seconds) (filter (is_stated_for children stop) links)

-- the greatest of some times, 0 where there is none
abbrev pub greatest : List ℕ → ℕ
greatest [] = 0
greatest (time ∷ times) = max time (greatest times)

-- the change time of a stop: the greatest that is stated for it, cut off at the limit, past which no change is possible
abbrev pub change_of : List (List StopNo) → List Link → ℕ → ℕ
change_of children links stop = min (greatest (stated_for children links stop)) MOST_CHANGE_SECONDS

-- the change time of each stop of a feed
abbrev pub change_times : FeedData → List ℕ
change_times feed = map (change_of feed.children feed.links) (range_with_len 0 (length feed.stops))

-- a time, or a longer one where that is stated
abbrev pub longer : Bool → ℕ → ℕ → ℕ
longer stated time other = if stated then max time other else time
