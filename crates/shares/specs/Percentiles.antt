-- A cell: the least duration that a share of a window's minutes attains (the nearest-rank percentile of their
-- durations, where a minute without a journey has none, and so lies beyond all).
use Rattle.std.specs.Prelude.{◌≡◌, ◌==◌, ◌<◌, ◌≤◌, ◌+◌, ◌*◌, ℕ, zero, suc, Bool, false, List, Option, Some, None, Vec}
use Rattle.std.specs.Prelude.{length, slice_get, slice_index_or, nat_le, if◌then◌else◌}
use Rattle.std.specs.Global.{Global}
use Rattle.timetable.specs.declared.least.TheConstants.{NEVER}
use Rattle.timetable.specs.declared.trips.StopNo.{StopNo}
use Rattle.rounds.specs.declared.window.TheConstants.{MOST_MINUTES}
use Rattle.rounds.specs.Table.{DurationTable, at, batches_of, known_of, label_in, IsLeastOrNone}
use Rattle.trip_lanes.specs.declared.lanes.TheConstants.{LANES}

-- a minute without a duration has none that is at most d
abbrev pub is_within : ℕ → Option ℕ → Bool
is_within d None = false
is_within d (Some x) = nat_le x d

-- in how many of the first n minutes the duration is at most d
abbrev pub minutes_within : (ℕ → Option ℕ) → ℕ → ℕ → ℕ
minutes_within of_minute d zero = 0
minutes_within of_minute d (suc n) = minutes_within of_minute d n + (if is_within d (of_minute n) then 1 else 0)

-- so many of a hundred of the n minutes have a duration at most d
abbrev pub Attains : (ℕ → Option ℕ) → ℕ → ℕ → ℕ → Type 0
Attains of_minute n share d = share * n ≤ 100 * minutes_within of_minute d n

-- the cell is the least duration that attains the share, or none where none does
abbrev pub IsCell : DurationTable → ℕ → ℕ → Option ℕ → Type 0
IsCell t share p cell = IsLeastOrNone (Attains (λ m. at t p m) t.minutes share) cell

-- one cell per stop
pub record AreCells (t : DurationTable) (share : ℕ) (cells : List (Option ℕ)) : Type 0 where
  pub stops : length cells ≡ t.stops
  pub each : (p : ℕ) → p < t.stops → IsCell t share p (slice_index_or cells p None)

-- one cell per destination, in the destinations' order
pub record AreCellsAt (t : DurationTable) (destinations : List StopNo) (share : ℕ) (cells : List (Option ℕ)) :
    Type 0 where
  pub count : length cells ≡ length destinations
  pub each : (k : ℕ) (stop : StopNo) → slice_get destinations k ≡ Some stop →
      IsCell t share stop.0 (slice_index_or cells k None)

-- one list of cells per share, in the shares' order: the cells of all stops
pub record AreCellsOf (t : DurationTable) (shares : List ℕ) (lists : List (Vec (Option ℕ) Global)) : Type 0 where
  pub count : length lists ≡ length shares
  pub each : (k share : ℕ) (cells : Vec (Option ℕ) Global) → slice_get shares k ≡ Some share →
      slice_get lists k ≡ Some cells →
      AreCells t share cells.items

-- the same with the cells of the destinations
pub record AreCellsOfAt (t : DurationTable) (destinations : List StopNo) (shares : List ℕ)
    (lists : List (Vec (Option ℕ) Global)) : Type 0 where
  pub count : length lists ≡ length shares
  pub each : (k share : ℕ) (cells : Vec (Option ℕ) Global) → slice_get shares k ≡ Some share →
      slice_get lists k ≡ Some cells →
      AreCellsAt t destinations share cells.items

-- the lanes of a stop: as many as its minutes take, and those past the window hold NEVER
pub record HoldMinutes (lanes : List (List ℕ)) (minutes : ℕ) : Type 0 where
  pub few : minutes ≤ MOST_MINUTES
  pub batches : length lanes ≡ batches_of minutes
  pub dead : (m : ℕ) → minutes ≤ m → m < LANES * batches_of minutes → label_in lanes m ≡ NEVER

-- no duration that these lanes tell is greater
abbrev pub IsTop : List (List ℕ) → ℕ → Type 0
IsTop lanes top = (m d : ℕ) → m < LANES * length lanes → known_of (label_in lanes m) ≡ Some d → d ≤ top

-- the label of a lane, and 0 where it is NEVER
abbrev pub known_label : ℕ → ℕ
known_label label = if label == NEVER then 0 else label
