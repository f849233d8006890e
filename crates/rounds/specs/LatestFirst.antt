-- A search at departures of any times, batch by batch from the latest.
use Rattle.std.specs.Prelude.{◌≡◌, ℕ, ◌+◌, ◌-◌, ◌*◌, ◌%◌, ◌<◌, ◌≤◌, List, [], length, slice_index, slice_index_or}
use Rattle.timetable.specs.declared.least.TheConstants.{NEVER}
use Rattle.timetable.specs.Journeys.{IsDuration}
use Rattle.timetable.specs.Least.{IsLeastOrNever}
use Rattle.timetable.specs.Lines.{LineTable, AreLinesOf}
use Rattle.timetable.specs.Networks.{Net}
use Rattle.timetable.specs.Numbering.{number_in}
use Rattle.timetable.specs.Renumbering.{IsRenumbered}
use Rattle.trip_lanes.specs.Cut.{cut}
use Rattle.trip_lanes.specs.declared.lanes.TheConstants.{LANES}
use Rattle.rounds.specs.declared.batches.Bounds.{Bounds}
use Rattle.rounds.specs.declared.latest_first.Progress.{Progress}
use Rattle.rounds.specs.declared.query.Query.{Query}
use Rattle.rounds.specs.declared.window.TheConstants.{MOST_RIDES}
use Rattle.rounds.specs.Batches.{AreTimesFrom, IsBaseFor}
use Rattle.rounds.specs.Query.{AreDepartures, IsWorkspaceFor}
use Rattle.rounds.specs.Table.{batches_of}

-- a search from an origin at each of some departures, for journeys of at most `rides` rides; the departures from position
-- `from` on have been searched, the first LANES of them in the last batch
pub record DepartureSearch : Type 0 where
  pub net : Net
  pub origin : ℕ
  pub times : List ℕ
  pub rides : ℕ
  pub from : ℕ

-- one that has searched nothing yet
abbrev pub begun : Net → ℕ → List ℕ → ℕ → DepartureSearch
begun n origin times rides = record {
  net = n;
  origin = origin;
  times = times;
  rides = rides;
  from = LANES * batches_of (length times);
}

-- the same once it has searched one batch more; the same if there is none
abbrev pub after_batch : DepartureSearch → DepartureSearch
after_batch s = record {
  net = s.net;
  origin = s.origin;
  times = s.times;
  rides = s.rides;
  from = s.from - LANES;
}

-- in a lane of the last batch, the least duration to stop p from the lane's departure, or NEVER if no journey leads
-- there; lanes past the last departure hold NEVER
pub record IsLaneDuration (s : DepartureSearch) (p l duration : ℕ) : Type 0 where
  pub used : s.from + l < length s.times →
      IsLeastOrNever (IsDuration s.net s.origin (slice_index s.times (s.from + l)) s.rides p) duration
  pub unused : length s.times ≤ s.from + l → duration ≡ NEVER

-- the search of a query
abbrev pub search_of : Query → ℕ → DepartureSearch
search_of q from = record {
  net = q.network.now;
  origin = q.origin.0;
  times = q.times.now;
  rides = q.rides;
  from = from;
}

-- the times of the departure at position `from`, if there is one, bound the batch before it, if there is one
pub record HasBounds (s : DepartureSearch) (b : Bounds) : Type 0 where
  pub last : length s.times ≤ s.from → b.departure ≡ NEVER
  pub followed : s.from < length s.times → b.departure ≡ slice_index s.times s.from
  pub count : 0 < s.from → length b.rounds.items ≡ s.rides + 1
  pub each : 0 < s.from → (base : ℕ) → IsBaseFor NEVER b.departure base →
      AreTimesFrom NEVER base s.net (record { stop = s.origin; time = cut base NEVER b.departure }) s.rides
      b.rounds.items

-- a search in progress: the durations of its last batch, and the bounds and workspace of the next batch
pub record IsUnderWay (s : DepartureSearch) (lines : LineTable) (p : Progress) : Type 0 where
  pub whole : s.from % LANES ≡ 0
  pub few : s.from < length s.times + LANES
  pub workspace : IsWorkspaceFor s.net.stops lines p.workspace
  pub bounds : HasBounds s p.bounds
  pub rows : length p.durations.items ≡ s.net.stops
  pub found : (q l : ℕ) → q < s.net.stops → l < LANES →
      IsLaneDuration s q l (slice_index (slice_index_or p.durations.items q []) l)

-- the same search in the network with stops by their search numbers
abbrev pub numbered : List ℕ → Net → DepartureSearch → DepartureSearch
numbered numbers m s = record {
  net = m;
  origin = slice_index numbers s.origin;
  times = s.times;
  rides = s.rides;
  from = s.from;
}

-- a search that can go on, by the numbers of its stops
pub record IsSearchIn (s : DepartureSearch) (numbers : List ℕ) (m : Net) (lines : LineTable) (p : Progress) :
    Type 0 where
  pub origin : s.origin < s.net.stops
  pub times : AreDepartures s.times
  pub rides : s.rides ≤ MOST_RIDES
  pub renumbered : IsRenumbered (number_in numbers) s.net m
  pub stops : m.stops ≡ s.net.stops
  pub size : length numbers ≡ s.net.stops
  pub low : (p : ℕ) → p < s.net.stops → slice_index numbers p < s.net.stops
  pub are_lines : AreLinesOf m.stops m.trips lines
  pub under_way : IsUnderWay (numbered numbers m s) lines p
