-- How far the bisection has come, in one lane.
use Rattle.std.specs.Prelude.{◌≡◌, ℕ, ◌+◌, ◌-◌, ◌*◌, ◌<◌, ◌≤◌, List, length}
use Rattle.label_cells.specs.declared.split_runs.SplitRun.{SplitRun}
use Rattle.label_cells.specs.SplitRuns.{under_at, cover_at, reached_at}
use Rattle.label_cells.specs.Sums.{sum_to}
use Rattle.label_cells.specs.Runs.{Brackets}

-- before the first bit: if enough minutes reach the stop, the rank is at most the count at `end`
pub record IsFirstPlaced (rows : List SplitRun) (l rank end : ℕ) : Type 0 where
  pub some : 1 ≤ rank
  pub top : rank ≤ sum_to (reached_at rows l) (length rows) → rank ≤ under_at rows l end

-- whole minutes and their count, with a step that is left to search; the bounds hold even if too few minutes reach the
-- stop
pub record IsPlaced (rows : List SplitRun) (l rank whole under step end : ℕ) : Type 0 where
  pub few : whole + step ≤ end
  pub is : under ≡ under_at rows l whole
  pub low : under < rank
  pub halves : rank ≤ sum_to (reached_at rows l) (length rows) → Brackets (under_at rows l) rank whole step

-- the seconds, with a step that is left to search; `left` is the rank less the minutes below minute `at`
pub record IsLeft (rows : List SplitRun) (l at left seconds step : ℕ) : Type 0 where
  pub few : seconds + step ≤ 64
  pub halves : left ≤ cover_at rows l at 64 → Brackets (cover_at rows l at) left seconds step

-- a cell of whole minutes, counted from `low`, and seconds, whose counts bracket the rank
pub record IsBetween (rows : List SplitRun) (l low rank cell : ℕ) : Type 0 where
  pub whole : ℕ
  pub seconds : ℕ
  pub is : cell ≡ 60 * (low + whole) + seconds
  pub few : seconds < 60
  pub fewer : low + whole < 65536
  pub some : under_at rows l whole < rank
  pub between : Brackets (cover_at rows l whole) (rank - under_at rows l whole) seconds 1

-- the cell of a rank, or NEVER if fewer minutes reach the stop
pub record IsSelected (rows : List SplitRun) (l low rank cell : ℕ) : Type 0 where
  pub none : sum_to (reached_at rows l) (length rows) < rank → cell ≡ 4294967295
  pub some : rank ≤ sum_to (reached_at rows l) (length rows) → IsBetween rows l low rank cell
