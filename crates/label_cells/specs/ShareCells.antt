-- The cells and the access of each share: by the definitions of `shares`, and how they come from cells by rank.
use Rattle.std.specs.Prelude.{◌≡◌, ℕ, ◌+◌, ◌*◌, ◌/◌, ◌<◌, List, Option, Some, None, length, slice_get, slice_index}
use Rattle.std.specs.Prelude.{slice_index_or}
use Rattle.timetable.specs.declared.trips.StopNo.{StopNo}
use Rattle.rounds.specs.declared.labels.WindowLabels.{WindowLabels}
use Rattle.rounds.specs.Labels.{Represent}
use Rattle.rounds.specs.Table.{DurationTable, known_of}
use Rattle.shares.specs.Percentiles.{AreCellsAt}
use Rattle.shares.specs.Opportunities.{IsAccess, counted}
use Rattle.label_cells.specs.declared.share_cells.Question.{Question}
use Rattle.label_cells.specs.declared.share_cells.ShareCells.{ShareCells}
use Rattle.label_cells.specs.Groups.{cell_at, stop_at}
use Rattle.label_cells.specs.Sums.{sum_to}

-- the cells of the destinations for a share, and the access of all stops within each limit
pub record IsShareCells (t : DurationTable) (q : Question) (share : ℕ) (given : ShareCells) : Type 0 where
  pub cells : AreCellsAt t q.destinations.now share given.cells.items
  pub count : length given.access.items ≡ length q.limits.now
  pub access : (i : ℕ) → i < length q.limits.now → IsAccess t q.opportunities.now share
      (slice_index q.limits.now i) (slice_index given.access.items i)

-- for each share, in the shares' order
pub record AreShareCells (t : DurationTable) (q : Question) (given : List ShareCells) : Type 0 where
  pub count : length given ≡ length q.shares.now
  pub each : (k share : ℕ) (cells : ShareCells) → slice_get q.shares.now k ≡ Some share →
      slice_get given k ≡ Some cells → IsShareCells t q share cells

-- the cells and the access that labels give: those of each table of durations that they represent
abbrev pub AreShareCellsOfLabels : WindowLabels → Question → List ShareCells → Type 0
AreShareCellsOfLabels labels q given = (t : DurationTable) → Represent labels t → AreShareCells t q given

-- the rank of each share: that percentage of the minutes, rounded up
pub record AreRanks (minutes : ℕ) (shares ranks : List ℕ) : Type 0 where
  pub count : length ranks ≡ length shares
  pub each : (k : ℕ) → k < length shares → slice_index ranks k ≡ (slice_index shares k * minutes + 99) / 100

-- the cells of rank k, stop by stop
pub record AreStopCells (ranks : ℕ) (cells : List (List ℕ)) (k : ℕ) (numbers of_stops : List ℕ) : Type 0 where
  pub count : length of_stops ≡ length numbers
  pub each : (p : ℕ) → p < length numbers → slice_index of_stops p ≡ cell_at ranks cells (slice_index numbers p) k

-- those of the destinations among them
pub record ArePicked (of_stops : List ℕ) (destinations : List StopNo) (cells : List (Option ℕ)) : Type 0 where
  pub count : length cells ≡ length destinations
  pub each : (k : ℕ) → k < length destinations →
      slice_index_or cells k None ≡ known_of (slice_index of_stops (stop_at destinations k))

-- the opportunities within a limit, stop by stop
abbrev pub access_by_stop : List ℕ → List ℕ → ℕ → ℕ
access_by_stop of_stops opportunities limit =
    sum_to (λ p. counted (known_of (slice_index of_stops p)) (slice_index opportunities p) limit) (length of_stops)

-- the access of these cells within each limit
pub record AreSums (of_stops opportunities limits sums : List ℕ) : Type 0 where
  pub count : length sums ≡ length limits
  pub each : (i : ℕ) → i < length limits →
      slice_index sums i ≡ access_by_stop of_stops opportunities (slice_index limits i)

-- what a share gives is that of rank k
pub record IsOfRank (ranks : ℕ) (cells : List (List ℕ)) (k : ℕ) (numbers : List ℕ) (q : Question)
    (given : ShareCells) : Type 0 where
  pub of_stops : List ℕ
  pub stops : AreStopCells ranks cells k numbers of_stops
  pub picked : ArePicked of_stops q.destinations.now given.cells.items
  pub sums : AreSums of_stops q.opportunities.now q.limits.now given.access.items

-- so for each rank
pub record AreOfRanks (ranks : ℕ) (cells : List (List ℕ)) (numbers : List ℕ) (q : Question) (count : ℕ)
    (given : List ShareCells) : Type 0 where
  pub size : length given ≡ count
  pub each : (k : ℕ) (none : ShareCells) → k < count →
      IsOfRank ranks cells k numbers q (slice_index_or given k none)
