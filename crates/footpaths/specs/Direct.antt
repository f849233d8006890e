-- Direct footpaths, as rows of transfers.txt and of a file of footpaths give them: from one stop to another, one way.
-- A pair of stops may be given more than once, with other times. Each stop has a change time, 0 where none is
-- stated.
-- (After the GTFS Schedule reference, transfers.txt.)
use Rattle.std.specs.Prelude.{◌≡◌, ◌≢◌, ℕ, ◌<◌, ◌≤◌, List, length, All}
use Rattle.timetable.specs.declared.trips.StopNo.{StopNo}
use Rattle.timetable.specs.declared.limits.TheConstants.{MOST_STOPS, MOST_FOOTPATHS, MOST_CHANGE_SECONDS}

-- from the first stop to the second, in these seconds
abbrev pub Footpath : Type 0
Footpath = StopNo × StopNo × ℕ

-- how many stops there are, the footpaths that the rows give, in their order, and the change time of each stop
pub record DirectLists : Type 0 where
  pub stops : ℕ
  pub pairs : List Footpath
  pub changes : List ℕ

-- a footpath leads from a stop to another one
pub record LeadsBetween (stops : ℕ) (path : Footpath) : Type 0 where
  pub from : path.0.0 < stops
  pub to : path.1.0 < stops
  pub other : path.0.0 ≢ path.1.0

-- what is true of all direct footpaths
pub record AreDirect (direct : DirectLists) : Type 0 where
  pub stops : direct.stops ≤ MOST_STOPS
  pub between : All (LeadsBetween direct.stops) direct.pairs
  pub few : length direct.pairs ≤ MOST_FOOTPATHS
  pub each : length direct.changes ≡ direct.stops
  pub short : All (λ seconds. seconds ≤ MOST_CHANGE_SECONDS) direct.changes
