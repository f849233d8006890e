-- The searched minutes of a window, and their departures.
use Rattle.std.specs.Prelude.{◌≡◌, ℕ, ◌*◌, ◌<◌, List, length, slice_index}
use Rattle.trip_lanes.specs.declared.lanes.TheConstants.{LANES}
use Rattle.useful_minutes.specs.Plan.{IsPlan, SkipsNothing}
use Rattle.rounds.specs.declared.query.Query.{Query}
use Rattle.rounds.specs.declared.skipped.WindowPlan.{WindowPlan}
use Rattle.rounds.specs.declared.window.Window.{Window}
use Rattle.rounds.specs.Table.{batches_of}
use Rattle.rounds.specs.Window.{departure, Fits}

-- the departures in the searched minutes of a window
pub record AreTimesOf (w : Window) (searched times : List ℕ) : Type 0 where
  pub count : length times ≡ length searched
  pub each : (j : ℕ) → j < length searched → slice_index times j ≡ departure w (slice_index searched j)

-- the query's departures are those of the searched minutes, and no minute of the window misses a trip by waiting for the
-- one that stands in for it
pub record IsPlanOf (q : Query) (p : WindowPlan) : Type 0 where
  pub fits : Fits p.window
  pub plan : IsPlan p.window.minutes (LANES * batches_of p.window.minutes) p.searched.now p.positions.now p.waits.now
  pub skips : SkipsNothing q.network.now q.origin.0 p.window.first p.window.minutes p.searched.now p.positions.now
  pub times : AreTimesOf p.window p.searched.now q.times.now
