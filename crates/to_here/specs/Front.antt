-- The departures of a window that deadlines serve, and their durations.
-- Letters: w window, m its departure, j index of a searched deadline.
use Rattle.std.specs.Prelude.{◌≡◌, ℕ, ◌+◌, ◌-◌, ◌<◌, ◌≤◌, ◌⊎◌, List, length, slice_index}
use Rattle.rounds.specs.declared.window.Window.{Window}
use Rattle.rounds.specs.Window.{departure}
use Rattle.reversal.specs.ReadOut.{IsServedBy, until_served}

-- how many departures a deadline with this label serves: the first ones, and no others
pub record IsFrontOf (w : Window) (deadline label front : ℕ) : Type 0 where
  pub within : front ≤ w.minutes
  pub served : (m : ℕ) → m < front → departure w m + label ≤ deadline
  pub unserved : (m : ℕ) → front ≤ m → m < w.minutes → deadline < departure w m + label

-- how many departures the searched deadlines serve, and for each departure the seconds until the first that does
pub record IsFront (w : Window) (times labels : List ℕ) (front : ℕ) (durations : List ℕ) : Type 0 where
  pub labelled : length labels ≡ length times
  pub minutes : length durations ≡ w.minutes
  pub within : front ≤ w.minutes
  pub served : (m : ℕ) → m < front → (j : ℕ) × IsServedBy times labels j (departure w m)
  pub unserved : (m j : ℕ) → front ≤ m → m < w.minutes → IsServedBy times labels j (departure w m) → ⊥
  pub duration : (m : ℕ) → m < w.minutes → slice_index durations m ≡ until_served times labels (departure w m)

-- the durations with those of the departures in a range replaced by the seconds until the deadline
pub record IsFilled (w : Window) (deadline from to : ℕ) (old new : List ℕ) : Type 0 where
  pub minutes : length new ≡ length old
  pub inside : (m : ℕ) → from ≤ m → m < to → slice_index new m ≡ deadline - departure w m
  pub outside : (m : ℕ) → (m < from) ⊎ (to ≤ m) → slice_index new m ≡ slice_index old m
