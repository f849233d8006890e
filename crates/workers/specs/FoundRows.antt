-- The shares of a row, by what a search found: narrow labels, or durations.
use Rattle.std.specs.Prelude.{◌≡◌, ℕ, List, Some, slice_get}
use Rattle.timetable.specs.declared.trips.StopNo.{StopNo}
use Rattle.timetable.specs.Networks.{Net}
use Rattle.rounds.specs.declared.labels.WindowLabels.{WindowLabels}
use Rattle.rounds.specs.Labels.{Represent}
use Rattle.rounds.specs.Table.{DurationTable}
use Rattle.label_cells.specs.declared.share_cells.ShareCells.{ShareCells}
use Rattle.collector.specs.Row.{CellsData}
use Rattle.workers.specs.Study.{StudyData}
use Rattle.workers.specs.Rows.{AreOfShares, IsRow}

-- what labels give for each share: what every table of durations gives that they represent
abbrev pub AreOfLabels : WindowLabels → StudyData → List CellsData → Type 0
AreOfLabels labels s given = (t : DurationTable) → Represent labels t → AreOfShares t s given

-- the cells and the access of a share, as a row has them
abbrev pub row_cells : ShareCells → CellsData
row_cells given = record { cells = given.cells.items; access = given.access.items }

-- what each share gives in the row of a study's scenario and origin, by their positions
pub record AreSharesOf (s : StudyData) (scenario origin : ℕ) (shares : List CellsData) : Type 0 where
  pub network : Net
  pub stop : StopNo
  pub network_is : slice_get s.networks scenario ≡ Some network
  pub stop_is : slice_get s.origins origin ≡ Some stop
  pub is_row : IsRow network stop.0 s.opportunities s.query shares
