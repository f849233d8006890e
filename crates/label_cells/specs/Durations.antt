-- The narrow labels of one stop for the searched minutes; and a cell by rank.
use Rattle.std.specs.Prelude.{◌≡◌, ◌≢◌, ℕ, ◌+◌, ◌*◌, ◌<◌, ◌≤◌, List, Option, length, slice_index}
use Rattle.timetable.specs.declared.limits.TheConstants.{END_OF_AXIS}
use Rattle.useful_minutes.specs.Plan.{AreMinutes}
use Rattle.rounds.specs.Table.{IsLeastOrNone}
use Rattle.rounds.specs.declared.window.TheConstants.{MOST_MINUTES}
use Rattle.shares.specs.Percentiles.{minutes_within}

-- the labels of a stop, one for each searched minute: no label is earlier than its departure, and no base is later,
-- or so much earlier that a label couldn't represent the departure
pub record AreLabels (labels bases searched : List ℕ) (first minutes : ℕ) : Type 0 where
  pub plan : AreMinutes minutes searched
  pub few : minutes ≤ MOST_MINUTES
  pub axis : first < END_OF_AXIS
  pub long : length labels ≡ length searched
  pub too : length bases ≡ length searched
  pub since : (j : ℕ) → j < length searched → slice_index labels j ≢ 65535 →
      first + 60 * slice_index searched j ≤ slice_index bases j + slice_index labels j
  pub before : (j : ℕ) → j < length searched → slice_index bases j ≤ first + 60 * slice_index searched j
  pub near : (j : ℕ) → j < length searched → first + 60 * slice_index searched j ≤ slice_index bases j + 65535

-- the cell of a rank: the least duration that `rank` minutes attain
abbrev pub IsCellOf : (ℕ → Option ℕ) → ℕ → ℕ → Option ℕ → Type 0
IsCellOf of_minute minutes rank cell = IsLeastOrNone (λ d. rank ≤ minutes_within of_minute d minutes) cell
