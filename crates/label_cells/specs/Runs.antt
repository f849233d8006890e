-- Runs: minutes that all wait for the same position; and how their durations are counted.
use Rattle.std.specs.Prelude.{◌≡◌, ◌≢◌, ℕ, ◌+◌, ◌-◌, ◌*◌, ◌<◌, ◌≤◌, ◌&&◌, List, Bool, false, Option, Some, None, min}
use Rattle.std.specs.Prelude.{length, slice_index, slice_index_or, nat_lt, if◌then◌else◌}
use Rattle.label_cells.specs.Sums.{sum_to}

-- the next position has the label and the base of this one
pub record GoesOn (labels bases : List ℕ) (j : ℕ) : Type 0 where
  pub within : j + 1 < length labels
  pub label : slice_index labels j ≡ slice_index labels (j + 1)
  pub base : slice_index bases j ≡ slice_index bases (j + 1)

-- positions at which runs end: a position that isn't an end has the label and base of the next one. There may be more
-- ends than needed, so the ends of one stop serve others too
pub record AreEnds (labels bases : List ℕ) (ends : List Bool) : Type 0 where
  pub long : length ends ≡ length labels
  pub others : (j : ℕ) → j < length labels → slice_index_or ends j false ≡ false → GoesOn labels bases j

-- a run of `span` minutes from minute `from` on: its last minute has the shortest duration, and each minute before
-- it waits
-- 60 seconds longer; if that is 65535, the stop isn't reached
pub record IsRun (of_minute : ℕ → Option ℕ) (from shortest span : ℕ) : Type 0 where
  pub never : shortest ≡ 65535 → (l : ℕ) → l < span → of_minute (from + l) ≡ None
  pub counted : shortest ≢ 65535 → (l : ℕ) → l < span → of_minute (from + l) ≡ Some (shortest + 60 * (span - 1 - l))

-- runs that follow one another and fill the window
pub record AreRuns (of_minute : ℕ → Option ℕ) (minutes : ℕ) (shortest span : ℕ → ℕ) (runs : ℕ) : Type 0 where
  pub each : (i : ℕ) → i < runs → IsRun of_minute (sum_to span i) (shortest i) (span i)
  pub all : sum_to span runs ≡ minutes

-- the shortest duration of a run, split into whole minutes, counted from `low`, and seconds; and in how many minutes
-- the
-- stop is reached
pub record IsSplitRun (low shortest span whole rest reached : ℕ) : Type 0 where
  pub less : rest < 60
  pub never : shortest ≡ 65535 → reached ≡ 0
  pub spans : shortest ≢ 65535 → reached ≡ span
  pub counted : shortest ≢ 65535 → shortest ≡ 60 * (low + whole) + rest

-- how many minutes of a run have a duration below `to` whole minutes
abbrev pub below : ℕ → ℕ → ℕ → ℕ
below to whole reached = min (to - whole) reached

-- whether a minute of a run has a duration of `at` whole minutes and fewer than `seconds` seconds
abbrev pub covers : ℕ → ℕ → ℕ → ℕ → ℕ → Bool
covers at seconds whole rest reached = nat_lt rest seconds && (nat_lt at (whole + reached) && nat_lt whole (at + 1))

abbrev pub covered : ℕ → ℕ → ℕ → ℕ → ℕ → ℕ
covered at seconds whole rest reached = if covers at seconds whole rest reached then 1 else 0

-- how many minutes of all runs have a duration below `to` whole minutes
abbrev pub under : (ℕ → ℕ) → (ℕ → ℕ) → ℕ → ℕ → ℕ
under whole reached runs to = sum_to (λ i. below to (whole i) (reached i)) runs

-- how many runs have a duration of `at` whole minutes and fewer than `seconds` seconds
abbrev pub cover : (ℕ → ℕ) → (ℕ → ℕ) → (ℕ → ℕ) → ℕ → ℕ → ℕ → ℕ
cover whole rest reached runs at seconds =
    sum_to (λ i. covered at seconds (whole i) (rest i) (reached i)) runs

-- the count at a value is below a rank, and the count a step further isn't: bisection keeps this, and halves the step
pub record Brackets (count : ℕ → ℕ) (rank value step : ℕ) : Type 0 where
  pub low : count value < rank
  pub high : rank ≤ count (value + step)
