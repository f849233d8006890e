-- What follows for the cells and the access of labels.
use Rattle.std.specs.Prelude.{◌≡◌, ℕ, List, Some, slice_get}
use Rattle.timetable.specs.Networks.{Net}
use Rattle.rounds.specs.declared.labels.WindowLabels.{WindowLabels}
use Rattle.rounds.specs.declared.window.Window.{Window}
use Rattle.rounds.specs.Labels.{AreLabelsOf}
use Rattle.rounds.specs.Table.{DurationTable}
use Rattle.rounds.specs.Window.{AreDurations}
use Rattle.label_cells.specs.declared.share_cells.Question.{Question}
use Rattle.label_cells.specs.declared.share_cells.ShareCells.{ShareCells}
use Rattle.label_cells.specs.ShareCells.{AreShareCells, AreShareCellsOfLabels}

-- a law: what labels give for each share are the cells and the access of the least durations, whichever search found
-- these
abbrev pub LabelsGiveTheCellsOfDurations : Type 0
LabelsGiveTheCellsOfDurations =
    (n : Net) (origin : ℕ) (w : Window) (k : ℕ) (labels : WindowLabels) (t : DurationTable) (q : Question)
    (given : List ShareCells) → AreLabelsOf n origin w k labels → AreDurations n origin w k t →
    AreShareCellsOfLabels labels q given → AreShareCells t q given

-- a law: a share of a table of durations has one list of cells, and one of access sums
abbrev pub ShareCellsAreUnique : Type 0
ShareCellsAreUnique =
    (t : DurationTable) (q : Question) (some others : List ShareCells) → AreShareCells t q some →
    AreShareCells t q others → (k share : ℕ) (one other : ShareCells) → slice_get q.shares.now k ≡ Some share →
    slice_get some k ≡ Some one → slice_get others k ≡ Some other →
    (one.cells.items ≡ other.cells.items) × (one.access.items ≡ other.access.items)
