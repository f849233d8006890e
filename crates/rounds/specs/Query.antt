-- Valid queries of a search, and the lengths of its workspace.
use Rattle.std.specs.Prelude.{◌≡◌, ◌+◌, ℕ, ◌<◌, ◌≤◌, List, length, slice_index}
use Rattle.timetable.specs.declared.limits.TheConstants.{END_OF_AXIS}
use Rattle.timetable.specs.Lines.{LineTable, AreLinesOf}
use Rattle.timetable.specs.Networks.{Net}
use Rattle.timetable.specs.Numbering.{number_in}
use Rattle.timetable.specs.Renumbering.{IsRenumbered}
use Rattle.rounds.specs.declared.query.Query.{Query}
use Rattle.rounds.specs.declared.workspace.Workspace.{Workspace}
use Rattle.rounds.specs.declared.window.TheConstants.{MOST_RIDES}

-- departures that can be searched: there is one, they ascend strictly, and each is on the axis
pub record AreDepartures (times : List ℕ) : Type 0 where
  pub some : 0 < length times
  pub ascend : (j : ℕ) → j + 1 < length times → slice_index times j < slice_index times (j + 1)
  pub on_axis : (j : ℕ) → j < length times → slice_index times j < END_OF_AXIS

-- a query that can be searched: the origin is a stop, the departures are in order, the lines are the network's, and
-- rides are within the limit
pub record IsValidQuery (q : Query) : Type 0 where
  pub origin : q.origin.0 < q.network.now.stops
  pub rides : q.rides ≤ MOST_RIDES
  pub times : AreDepartures q.times.now
  pub lines : AreLinesOf q.network.now.stops q.network.now.trips q.lines.now

-- a query of this network, with its stops by these numbers, from this origin
pub record IsQueryOf (n : Net) (origin : ℕ) (numbers : List ℕ) (q : Query) : Type 0 where
  pub renumbered : IsRenumbered (number_in numbers) n q.network.now
  pub stops : q.network.now.stops ≡ n.stops
  pub size : length numbers ≡ n.stops
  pub low : (p : ℕ) → p < n.stops → slice_index numbers p < n.stops
  pub start : q.origin.0 ≡ slice_index numbers origin

-- an entry for each stop or line; `before` has one more, scratch space of no stop
pub record IsWorkspaceFor {R : Type 0} (stops : ℕ) (lines : LineTable) (t : Workspace R) : Type 0 where
  pub ride : length t.ride.items ≡ stops
  pub ready : length t.ready.labels.items ≡ stops
  pub before : length t.ready.before.items ≡ stops + 1
  pub falls : length t.falls.items ≡ stops
  pub marked : length t.marked.items ≡ stops
  pub fallen : length t.ready.fallen.items ≡ stops
  pub due : length t.due.items ≡ length lines.lines
