-- The jobs of a study, one per scenario and origin, and their places.
use Rattle.std.specs.Prelude.{◌≡◌, ℕ, ◌*◌, ◌/◌, ◌%◌, ◌<◌, Some, length}
use Rattle.collector.specs.Row.{RowData}
use Rattle.collector.specs.Places.{PlacesData, empty_places, row_at}
use Rattle.workers.specs.Study.{StudyData}
use Rattle.workers.specs.Rows.{IsRowOf}

-- one job per scenario and origin
abbrev pub jobs_of : StudyData → ℕ
jobs_of s = length s.networks * length s.origins

-- the row of a job, scenarios in the outer order
abbrev pub IsRowOfJob : StudyData → ℕ → RowData → Type 0
IsRowOfJob s job row = IsRowOf s (job / length s.origins) (job % length s.origins) row

-- the places of a study before its first row
abbrev pub places_without_rows : StudyData → PlacesData
places_without_rows s =
    empty_places s.number (length s.networks) (length s.origins) (length s.query.destinations) (length s.query.shares)
    (length s.query.limits)

-- the places are those of a study, one per job
pub record ArePlaces (s : StudyData) (places : PlacesData) : Type 0 where
  pub study : places.study ≡ s.number
  pub scenarios : places.scenarios ≡ length s.networks
  pub origins : places.origins ≡ length s.origins
  pub width : places.width ≡ length s.query.destinations
  pub shares : places.shares ≡ length s.query.shares
  pub limits : places.limits ≡ length s.query.limits
  pub count : length places.rows ≡ jobs_of s

-- the jobs below n have their rows
abbrev pub AreFilledBelow : StudyData → ℕ → PlacesData → Type 0
AreFilledBelow s n places = (job : ℕ) → job < n →
    (row : RowData) × (row_at places job ≡ Some row) × IsRowOfJob s job row

-- every place has its row
pub record AreFilled (s : StudyData) (places : PlacesData) : Type 0 where
  pub places_are : ArePlaces s places
  pub filled : AreFilledBelow s (jobs_of s) places
