-- After when no journey from an origin ends at a stop.
use Rattle.std.specs.Prelude.{◌≡◌, ℕ, ◌+◌, ◌<◌, ◌≤◌, ◌⊎◌, List, length, slice_index}
use Rattle.timetable.specs.declared.limits.TheConstants.{MOST_FOOT_SECONDS}
use Rattle.timetable.specs.Networks.{Net}
use Rattle.timetable.specs.Journeys.{IsReached}

-- no journey of at most k rides that begins at the origin then, or later, ends at a stop after both its number and the
-- longest walk from where it begins
pub record AreLastFrom (n : Net) (origin first k : ℕ) (last : List ℕ) : Type 0 where
  pub size : length last ≡ n.stops
  pub none_later : (depart p time : ℕ) → first ≤ depart → p < n.stops →
      IsReached n (record { stop = origin; time = depart }) k p time →
      (time ≤ slice_index last p) ⊎ (time ≤ depart + MOST_FOOT_SECONDS)
