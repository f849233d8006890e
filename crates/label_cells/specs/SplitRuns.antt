-- Split runs of sixteen stops side by side: each lane has those of one stop.
use Rattle.std.specs.Prelude.{◌≡◌, ◌≢◌, ℕ, ◌+◌, ◌<◌, ◌≤◌, ◌^◌, List, [], Option, nat_lt, if◌then◌else◌, length}
use Rattle.std.specs.Prelude.{slice_index, slice_index_or}
use Rattle.label_cells.specs.declared.selection.Summary.{Summary}
use Rattle.label_cells.specs.Runs.{AreRuns, IsSplitRun}
use Rattle.label_cells.specs.declared.split_runs.SplitRun.{SplitRun}
use Rattle.label_cells.specs.Sums.{sum_to}
use Rattle.label_cells.specs.Runs.{covers, under, cover}

abbrev pub no_split : SplitRun
no_split = record { whole = []; rest = []; span = [] }

-- the whole minutes, the seconds and the reached minutes of run i in lane l
abbrev pub whole_at : List SplitRun → ℕ → ℕ → ℕ
whole_at rows l i = slice_index (slice_index_or rows i no_split).whole l

abbrev pub rest_at : List SplitRun → ℕ → ℕ → ℕ
rest_at rows l i = slice_index (slice_index_or rows i no_split).rest l

abbrev pub reached_at : List SplitRun → ℕ → ℕ → ℕ
reached_at rows l i = slice_index (slice_index_or rows i no_split).span l

-- bounds that keep all counts within 16 bits: a day has 1,440 minutes, and the greatest label 1,092 whole ones
pub record AreSmall (rows : List SplitRun) : Type 0 where
  pub wholes : (l i : ℕ) → l < 16 → i < length rows → whole_at rows l i ≤ 1092
  pub less : (l i : ℕ) → l < 16 → i < length rows → rest_at rows l i < 60
  pub spans : (l : ℕ) → l < 16 → sum_to (reached_at rows l) (length rows) ≤ 1440

abbrev pub under_at : List SplitRun → ℕ → ℕ → ℕ
under_at rows l to = under (whole_at rows l) (reached_at rows l) (length rows) to

abbrev pub cover_at : List SplitRun → ℕ → ℕ → ℕ → ℕ
cover_at rows l at seconds = cover (whole_at rows l) (rest_at rows l) (reached_at rows l) (length rows) at seconds

-- for each run a number that is below `seconds` just if the run covers minute `at` with fewer seconds
pub record AreCovering (rows : List SplitRun) (at : List ℕ) (covering : List (List ℕ)) : Type 0 where
  pub size : length covering ≡ length rows
  pub each : (i l seconds : ℕ) → i < length rows → l < 16 → seconds ≤ 64 →
      nat_lt (slice_index (slice_index_or covering i []) l) seconds
      ≡ covers (slice_index at l) seconds (whole_at rows l i) (rest_at rows l i) (reached_at rows l i)

-- how many of these numbers are below `seconds`
abbrev pub fewer_at : List (List ℕ) → ℕ → ℕ → ℕ
fewer_at covering l seconds =
    sum_to (λ i. if nat_lt (slice_index (slice_index_or covering i []) l) seconds then 1 else 0) (length covering)

-- lane l holds the runs of these durations, split, with whole minutes counted from `low`
pub record AreSplitRuns (of_minute : ℕ → Option ℕ) (minutes low l : ℕ) (rows : List SplitRun) : Type 0 where
  pub shortest : ℕ → ℕ
  pub span : ℕ → ℕ
  pub runs : AreRuns of_minute minutes shortest span (length rows)
  pub split : (i : ℕ) → i < length rows →
      IsSplitRun low (shortest i) (span i) (whole_at rows l i) (rest_at rows l i) (reached_at rows l i)

-- how many minutes reach each stop, and bits enough for the whole minutes of its durations
pub record IsSummary (rows : List SplitRun) (s : Summary) : Type 0 where
  pub low : (l : ℕ) → l < 16 → slice_index s.low l ≤ 1092
  pub known : (l : ℕ) → l < 16 → slice_index s.known l ≡ sum_to (reached_at rows l) (length rows)
  pub few : s.bits ≤ 12
  pub top : (l i : ℕ) → l < 16 → i < length rows → reached_at rows l i ≢ 0 →
      whole_at rows l i + reached_at rows l i < 2 ^ s.bits
