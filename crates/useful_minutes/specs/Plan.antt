-- Which minutes of a window are searched, and which of them stands in for each minute.
use Rattle.std.specs.Prelude.{◌≡◌, ℕ, ◌+◌, ◌-◌, ◌*◌, ◌<◌, ◌≤◌, ◌⊎◌, List, length, slice_index, Bool}
use Rattle.useful_minutes.specs.declared.plan.TheConstants.{MOST_GAP, SHORT_WINDOW}
use Rattle.timetable.specs.Networks.{Net}
use Rattle.useful_minutes.specs.Boarding.{MissesNothing}
use Rattle.useful_minutes.specs.Marks.{IsMarked}

-- so many minutes of a window, in ascending order up to the last, and never far apart unless the window is short
pub record AreMinutes (minutes : ℕ) (searched : List ℕ) : Type 0 where
  pub ascends : (j : ℕ) → j + 1 < length searched → slice_index searched j < slice_index searched (j + 1)
  pub near : (j : ℕ) → j + 1 < length searched →
      (slice_index searched (j + 1) ≤ slice_index searched j + MOST_GAP) ⊎ (minutes ≤ SHORT_WINDOW)
  pub within : (j : ℕ) → j < length searched → slice_index searched j < minutes
  pub some : 0 < length searched
  pub last : slice_index searched (length searched - 1) + 1 ≡ minutes

-- each marked minute is among these
abbrev pub HasMarked : List Bool → List ℕ → Type 0
HasMarked marks searched =
    (m : ℕ) → m < length marks → IsMarked marks m →
    (j : ℕ) × (j < length searched) × (slice_index searched j ≡ m)

-- minute m waits for the minute at position j of those that are searched, the first that is no earlier
pub record StandsIn (searched : List ℕ) (m j wait : ℕ) : Type 0 where
  pub within : j < length searched
  pub no_earlier : m ≤ slice_index searched j
  pub first : (i : ℕ) → i < j → slice_index searched i < m
  pub waits : wait ≡ 60 * (slice_index searched j - m)

-- for each of so many minutes the position of the one that stands in for it, and the seconds until then
pub record AreStandIns (minutes : ℕ) (searched positions waits : List ℕ) : Type 0 where
  pub long : length positions ≡ minutes
  pub too : length waits ≡ minutes
  pub each : (m : ℕ) → m < minutes → StandsIn searched m (slice_index positions m) (slice_index waits m)

-- the positions and waits of the minutes are as they were, and the lanes past them have the position after those of the
-- searched minutes
pub record ArePadded (searched minutes lanes : ℕ) (positions waits more longer : List ℕ) : Type 0 where
  pub long : length more ≡ lanes
  pub too : length longer ≡ lanes
  pub kept : (m : ℕ) → m < minutes → slice_index more m ≡ slice_index positions m
  pub same : (m : ℕ) → m < minutes → slice_index longer m ≡ slice_index waits m
  pub past : (m : ℕ) → minutes ≤ m → m < lanes → slice_index more m ≡ searched

-- the minutes of a window that are searched, and for each of the window the position of the one that stands in for it;
-- for lanes past the window the position after these
pub record IsPlan (minutes lanes : ℕ) (searched positions waits : List ℕ) : Type 0 where
  pub are : AreMinutes minutes searched
  pub long : length positions ≡ lanes
  pub too : length waits ≡ lanes
  pub each : (m : ℕ) → m < minutes → StandsIn searched m (slice_index positions m) (slice_index waits m)
  pub past : (m : ℕ) → minutes ≤ m → m < lanes → slice_index positions m ≡ length searched

-- no minute misses a trip by waiting for the one that stands in for it
abbrev pub SkipsNothing : Net → ℕ → ℕ → ℕ → List ℕ → List ℕ → Type 0
SkipsNothing n origin first minutes searched positions =
    (m : ℕ) → m < minutes →
    MissesNothing n origin (first + 60 * m) (first + 60 * slice_index searched (slice_index positions m))

-- each minute stands in for itself
abbrev pub SearchesAll : ℕ → List ℕ → List ℕ → Type 0
SearchesAll minutes searched positions =
    (m : ℕ) → m < minutes → slice_index searched (slice_index positions m) ≡ m
