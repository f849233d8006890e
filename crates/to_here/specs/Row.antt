-- The row of a destination: for each origin its front, and the durations of a window.
-- Letters: w window, o origin, x its durations, h horizon, n network, k rides at most, p destination.
use Rattle.std.specs.Prelude.{◌≡◌, ℕ, ◌+◌, ◌*◌, ◌<◌, ◌≤◌, List, length, map, min, slice_get, slice_index, slice_range}
use Rattle.std.specs.Prelude.{Some}
use Rattle.timetable.specs.Least.{IsLeastOrNever}
use Rattle.timetable.specs.Journeys.{IsDuration}
use Rattle.timetable.specs.Networks.{Net}
use Rattle.rounds.specs.declared.window.Window.{Window}
use Rattle.rounds.specs.Window.{departure}
use Rattle.reversal.specs.Deadlines.{AreWalksTo}
use Rattle.to_here.specs.declared.row.OriginDurations.{OriginDurations}
use Rattle.to_here.specs.Front.{IsFront, IsFrontOf}
use Rattle.to_here.specs.Searched.{AreEnough, AreSearchedFor}

-- there is a duration for each departure, and the front is within the window
pub record IsOriginOf (w : Window) (x : OriginDurations) : Type 0 where
  pub minutes : length x.durations.items ≡ w.minutes
  pub within : x.front ≤ w.minutes

-- each origin has the front of these deadlines, given its labels
abbrev pub AreFronts : Window → List ℕ → (ℕ → List ℕ) → List OriginDurations → Type 0
AreFronts w times labels row = (o : ℕ) (x : OriginDurations) → slice_get row o ≡ Some x →
    IsFront w times (labels o) x.front x.durations.items

-- the labels of an origin in a list of labels origin by origin, with `width` labels for each
abbrev pub labels_for : List ℕ → ℕ → ℕ → List ℕ
labels_for labels width o = slice_range labels (o * width) (o * width + width)

-- for each origin how many departures the time serves, given the origin's label
pub record AreLastFronts (w : Window) (end : ℕ) (labels lasts : List ℕ) : Type 0 where
  pub count : length lasts ≡ length labels
  pub each : (o : ℕ) → o < length labels → IsFrontOf w end (slice_index labels o) (slice_index lasts o)

-- each duration of an origin is lowered to the seconds of its walk alone
abbrev pub AreLowered : List ℕ → List OriginDurations → List OriginDurations → Type 0
AreLowered walks old new = (o : ℕ) (y : OriginDurations) → slice_get new o ≡ Some y →
    (x : OriginDurations) × (slice_get old o ≡ Some x)
    × (y.durations.items ≡ map (min (slice_index walks o)) x.durations.items)

-- enough deadlines of p were searched for each origin of the network, which have these labels
pub record IsRowSearched (h : ℕ) (n mirrored : Net) (w : Window) (through p k : ℕ) (times : List ℕ)
    (labels : ℕ → List ℕ) : Type 0 where
  pub searched : (o : ℕ) → o < n.stops → AreSearchedFor h n mirrored w through p k o times (labels o)
  pub enough : (o : ℕ) → o < n.stops → AreEnough h n mirrored w through p k o times (labels o)

-- for each origin and departure the least duration to p of a journey of at most k rides, or NEVER if there is none
pub record IsRowTo (n : Net) (w : Window) (k p : ℕ) (row : List OriginDurations) : Type 0 where
  pub origins : length row ≡ n.stops
  pub each : (o m : ℕ) (x : OriginDurations) → slice_get row o ≡ Some x → m < w.minutes →
      IsLeastOrNever (IsDuration n o (departure w m) k p) (slice_index x.durations.items m)

-- the finished row has the least durations to a destination, if its deadlines were searched, and if these are the walks
-- to it
abbrev pub IsFinished : List ℕ → List OriginDurations → List OriginDurations → Type 0
IsFinished walks old new =
    (h : ℕ) (n mirrored : Net) (w : Window) (through p k : ℕ) (times : List ℕ) (labels : ℕ → List ℕ) →
    IsRowSearched h n mirrored w through p k times labels → length old ≡ n.stops → AreFronts w times labels old →
    AreWalksTo n.feet.walks p walks → IsRowTo n w k p new
