-- The cells of groups of sixteen stops: for each group one list of sixteen cells per rank, without walks.
use Rattle.std.specs.Prelude.{◌≡◌, ℕ, ◌+◌, ◌*◌, ◌/◌, ◌%◌, ◌<◌, ◌≤◌, List, [], Bool, true, false, Option, length}
use Rattle.std.specs.Prelude.{slice_index, slice_index_or}
use Rattle.timetable.specs.declared.trips.StopNo.{StopNo}
use Rattle.rounds.specs.Table.{known_of}
use Rattle.label_cells.specs.declared.split_runs.SplitRun.{SplitRun}
use Rattle.label_cells.specs.declared.selection.Summary.{Summary}
use Rattle.rounds.specs.declared.labels.WindowLabels.{WindowLabels}
use Rattle.rounds.specs.Labels.{AreLabelDurations, AreSince, labels_of, least_walk, lesser}
use Rattle.label_cells.specs.Durations.{IsCellOf}
use Rattle.label_cells.specs.SplitRuns.{AreSmall, AreSplitRuns, IsSummary}
use Rattle.label_cells.specs.GroupLanes.{lane_of}

-- how many groups this many stops make
abbrev pub groups_of : ℕ → ℕ
groups_of stops = (stops + 15) / 16

-- the labels of lane l of the group that begins at `from`
abbrev pub group_lane : WindowLabels → ℕ → ℕ → List ℕ
group_lane w from l = lane_of w.found.labels.now from w.found.width (length w.searched.now) l

-- these are the durations of lane l, and no label of it is earlier than its departure
pub record AreLaneDurations (w : WindowLabels) (from l : ℕ) (of_minute : ℕ → Option ℕ) : Type 0 where
  pub since : AreSince (group_lane w from l) w.found.bases.now w.searched.now w.first
  pub durations : AreLabelDurations (group_lane w from l) w.found.bases.now w.searched.now w.first w.minutes of_minute

-- a group's runs, split, with their summary
pub record AreGroupRuns (w : WindowLabels) (from : ℕ) (rows : List SplitRun) (s : Summary) : Type 0 where
  pub small : AreSmall rows
  pub few : length rows ≤ w.minutes
  pub summary : IsSummary rows s
  pub runs : (l : ℕ) (of_minute : ℕ → Option ℕ) → l < 16 → AreLaneDurations w from l of_minute →
      AreSplitRuns of_minute w.minutes (slice_index s.low l) l rows

-- the cells of split runs come after those that were there, one list per rank
pub record AddsRanks (rows : List SplitRun) (low ranks : List ℕ) (old new : List (List ℕ)) : Type 0 where
  pub size : length new ≡ length old + length ranks
  pub kept : (i : ℕ) → i < length old → slice_index_or new i [] ≡ slice_index_or old i []
  pub added : (k l minutes : ℕ) (of_minute : ℕ → Option ℕ) → k < length ranks → l < 16 →
      AreSplitRuns of_minute minutes (slice_index low l) l rows →
      IsCellOf of_minute minutes (slice_index ranks k)
      (known_of (slice_index (slice_index_or new (length old + k) []) l))

-- so those of a group
pub record AddsGroup (w : WindowLabels) (from : ℕ) (ranks : List ℕ) (old new : List (List ℕ)) : Type 0 where
  pub size : length new ≡ length old + length ranks
  pub kept : (i : ℕ) → i < length old → slice_index_or new i [] ≡ slice_index_or old i []
  pub added : (k l : ℕ) (of_minute : ℕ → Option ℕ) → k < length ranks → l < 16 →
      AreLaneDurations w from l of_minute → IsCellOf of_minute w.minutes (slice_index ranks k)
      (known_of (slice_index (slice_index_or new (length old + k) []) l))

-- lists that say nothing, as many as there are ranks
pub record AddsUnused (ranks : ℕ) (old new : List (List ℕ)) : Type 0 where
  pub size : length new ≡ length old + ranks
  pub kept : (i : ℕ) → i < length old → slice_index_or new i [] ≡ slice_index_or old i []

-- the cells of the used groups, group by group and rank by rank
pub record AreGroupCells (w : WindowLabels) (used : List Bool) (ranks : List ℕ) (cells : List (List ℕ)) : Type 0 where
  pub size : length cells ≡ length used * length ranks
  pub each : (g k l : ℕ) (of_minute : ℕ → Option ℕ) → g < length used → slice_index_or used g false ≡ true →
      k < length ranks → l < 16 → AreLaneDurations w (16 * g * w.found.width) l of_minute →
      IsCellOf of_minute w.minutes (slice_index ranks k)
      (known_of (slice_index (slice_index_or cells (g * length ranks + k) []) l))

-- the cell of the stop with number q for rank k
abbrev pub cell_at : ℕ → List (List ℕ) → ℕ → ℕ → ℕ
cell_at ranks cells q k = slice_index (slice_index_or cells (q / 16 * ranks + k) []) (q % 16)

-- the group of the stop with number q is used
abbrev pub is_used : List Bool → ℕ → Type 0
is_used used q = slice_index_or used (q / 16) false ≡ true

-- the cells of all stops in used groups, with walks
pub record AreRankCells (w : WindowLabels) (used : List Bool) (ranks : List ℕ) (cells : List (List ℕ)) : Type 0 where
  pub size : length cells ≡ length used * length ranks
  pub each : (q k : ℕ) (of_minute : ℕ → Option ℕ) → q < length w.numbers.now → is_used used q → k < length ranks →
      AreSince (labels_of w q) w.found.bases.now w.searched.now w.first →
      AreLabelDurations (labels_of w q) w.found.bases.now w.searched.now w.first w.minutes of_minute →
      IsCellOf (λ m. lesser (of_minute m) (least_walk w.walks.now q (length w.walks.now))) w.minutes
      (slice_index ranks k) (known_of (cell_at (length ranks) cells q k))

-- the k-th of some stops
abbrev pub stop_at : List StopNo → ℕ → ℕ
stop_at stops k = (slice_index_or stops k (record { 0 = 0 })).0
