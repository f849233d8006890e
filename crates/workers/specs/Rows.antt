-- A row: for one network and one origin, what each share of the minutes gives: the cell of each destination, and for
-- each limit the opportunities at the stops within reach, of all stops. (Cumulative opportunities, over percentiles of
-- the travel times of a departure window.)
use Rattle.std.specs.Prelude.{◌≡◌, ℕ, List, Option, Some, None, map, slice_get, slice_index_or}
use Rattle.std.specs.List.{AllZip}
use Rattle.timetable.specs.declared.trips.StopNo.{StopNo}
use Rattle.timetable.specs.Networks.{Net}
use Rattle.rounds.specs.Table.{DurationTable}
use Rattle.rounds.specs.Window.{AreDurations}
use Rattle.shares.specs.Percentiles.{AreCells}
use Rattle.shares.specs.Opportunities.{access_of}
use Rattle.collector.specs.Row.{CellsData, RowData}
use Rattle.workers.specs.Study.{Query, StudyData}

-- the access of some cells for each limit, in the limits' order
abbrev pub sums_of : List (Option ℕ) → List ℕ → List ℕ → List ℕ
sums_of cells opportunities limits = map (λ limit. access_of cells opportunities limit) limits

-- the cells of some stops, among those of all
abbrev pub at_stops : List StopNo → List (Option ℕ) → List (Option ℕ)
at_stops stops cells = map (λ (stop : StopNo). slice_index_or cells stop.0 None) stops

-- what a share gives, by the cells of all stops: those of the destinations, and the access of all
pub record IsOfShare (times : DurationTable) (opportunities limits : List ℕ) (destinations : List StopNo) (share : ℕ)
    (given : CellsData) : Type 0 where
  pub all : List (Option ℕ)
  pub all_are : AreCells times share all
  pub cells_are : given.cells ≡ at_stops destinations all
  pub access_is : given.access ≡ sums_of all opportunities limits

-- the access sums of a share, whichever list of all stops' cells they are taken of
abbrev pub AreSums : DurationTable → ℕ → List ℕ → List ℕ → List ℕ → Type 0
AreSums times share opportunities limits sums = (all : List (Option ℕ)) → AreCells times share all →
    sums ≡ sums_of all opportunities limits

-- what a network gives for an origin, share by share: it takes no more than these, and no other scenario
pub record IsRow (n : Net) (origin : ℕ) (opportunities : List ℕ) (q : Query) (shares : List CellsData) : Type 0 where
  pub times : DurationTable
  pub durations : AreDurations n origin q.window q.rides times
  pub shares_are : AllZip (IsOfShare times opportunities q.limits q.destinations) q.shares shares

-- what each share gives of a study's durations
abbrev pub AreOfShares : DurationTable → StudyData → List CellsData → Type 0
AreOfShares times s given = AllZip (IsOfShare times s.opportunities s.query.limits s.query.destinations) s.query.shares
    given

-- the row of a study's scenario and origin, by their positions
pub record IsRowOf (s : StudyData) (scenario origin : ℕ) (row : RowData) : Type 0 where
  pub study_is : row.study ≡ s.number
  pub scenario_is : row.scenario ≡ scenario
  pub origin_is : row.origin ≡ origin
  pub network : Net
  pub stop : StopNo
  pub network_is : slice_get s.networks scenario ≡ Some network
  pub stop_is : slice_get s.origins origin ≡ Some stop
  pub is_row : IsRow network stop.0 s.opportunities s.query row.shares
