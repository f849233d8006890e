-- Places that are filled with the rows of the jobs that were kept.
use Rattle.std.specs.Prelude.{◌≡◌, ◌<◌, ℕ, List, Option, Some, None}
use Rattle.collector.specs.Row.{RowData}
use Rattle.collector.specs.Places.{PlacesData, row_at}
use Rattle.workers.specs.Study.{StudyData}
use Rattle.workers.specs.Jobs.{jobs_of, IsRowOfJob, ArePlaces}
use Rattle.workers.specs.Held.{count_in}

-- a place has the row of its job, which was kept, or it is empty, and its job wasn't
abbrev pub IsFilledAs : StudyData → List ℕ → ℕ → Option RowData → Type 0
IsFilledAs s kept job None = count_in job kept ≡ 0
IsFilledAs s kept job (Some row) = IsRowOfJob s job row × (0 < count_in job kept)

-- the places of a study have the rows of the jobs that were kept, and no others
pub record AreFilledAs (s : StudyData) (kept : List ℕ) (places : PlacesData) : Type 0 where
  pub places_are : ArePlaces s places
  pub filled : (job : ℕ) → job < jobs_of s → IsFilledAs s kept job (row_at places job)
