-- Which deadlines of a destination were searched for an origin, and whether they are enough.
-- Letters: h horizon, n network, w window, m its departure, k rides at most, p destination.
use Rattle.std.specs.Prelude.{ℕ, ◌<◌, ◌≤◌, List}
use Rattle.timetable.specs.declared.limits.TheConstants.{END_OF_AXIS}
use Rattle.timetable.specs.Networks.{Net, IsNet}
use Rattle.rounds.specs.declared.window.Window.{Window}
use Rattle.rounds.specs.Window.{departure}
use Rattle.reversal.specs.Mirror.{IsHorizon, IsMirrored}
use Rattle.reversal.specs.ReadOut.{AreSearched, IsEnough}

-- the deadlines of p were searched over the mirrored network, for an origin and the departures of a window; `through`
-- is the time up to which all were
pub record AreSearchedFor (h : ℕ) (n mirrored : Net) (w : Window) (through p k origin : ℕ) (times labels : List ℕ) :
    Type 0 where
  pub net : IsNet n
  pub axis : h < END_OF_AXIS
  pub horizon : IsHorizon h n.trips
  pub mirror : IsMirrored h n mirrored
  pub departures : (m : ℕ) → m < w.minutes → departure w m ≤ h
  pub searched : AreSearched h n mirrored w.first through p k origin times labels

-- they are enough for each departure
abbrev pub AreEnough : ℕ → Net → Net → Window → ℕ → ℕ → ℕ → ℕ → List ℕ → List ℕ → Type 0
AreEnough h n mirrored w through p k origin times labels =
    (m : ℕ) → m < w.minutes → IsEnough h n mirrored w.first through p k origin (departure w m) times labels
