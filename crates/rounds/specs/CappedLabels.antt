-- Labels that go up to a number, never, which says that a stop isn't reached before it.
use Rattle.std.specs.Prelude.{◌≡◌, ◌≢◌, ℕ, ◌<◌, ◌≤◌, List, length, slice_index}
use Rattle.timetable.specs.Networks.{Net}
use Rattle.timetable.specs.Journeys.{Whereabouts}
use Rattle.rounds.specs.Minutes.{IsRidden, IsReady}

-- the labels below never are times at which the stops are reached, and no stop is reached before its label
pub record IsTableTo (never : ℕ) (Reached : ℕ → ℕ → Type 0) (labels : List ℕ) : Type 0 where
  pub found : (p : ℕ) → p < length labels → slice_index labels p ≢ never → Reached p (slice_index labels p)
  pub least : (p time : ℕ) → p < length labels → Reached p time → slice_index labels p ≤ time

-- the labels of rides, and of who is ready to board, after k rides; who departs at never reaches nothing before it
pub record LaneStateTo (never : ℕ) (n : Net) (o : Whereabouts) (k : ℕ) (ride ready : List ℕ) : Type 0 where
  pub ride_len : length ride ≡ n.stops
  pub ready_len : length ready ≡ n.stops
  pub ride_fits : (p : ℕ) → slice_index ride p ≤ never
  pub ready_fits : (p : ℕ) → slice_index ready p ≤ never
  pub rides : IsTableTo never (IsRidden n o k) ride
  pub readies : IsTableTo never (IsReady n o k) ready
