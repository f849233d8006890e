-- When the trips of a line arrive at one of its positions, and depart there.
use Rattle.std.specs.Prelude.{◌≡◌, ℕ, ◌+◌, ◌*◌, ◌<◌, length, slice_index}
use Rattle.timetable.specs.LineViews.{arrivals_in, departures_in}
use Rattle.trip_lanes.specs.Cut.{cut}
use Rattle.trip_lanes.specs.declared.columns.Column.{Column}

-- the position is one of the line's, and each trip has times at each of them
pub record IsColumn (c : Column) : Type 0 where
  pub position : c.position < c.positions
  pub size : length c.times.now ≡ c.trips * c.positions

-- when the trip that comes r-th in the line departs from the position
abbrev pub leaves : Column → ℕ → ℕ
leaves c r = slice_index (departures_in c.times.now) (r * c.positions + c.position)

-- when it arrives there, as labels tell it, and when it departs
abbrev pub arrives : Column → ℕ → ℕ
arrives c r = cut c.base c.cap (slice_index (arrivals_in c.times.now) (r * c.positions + c.position))

abbrev pub departs : Column → ℕ → ℕ
departs c r = cut c.base c.cap (leaves c r)

-- a time before which trips depart before a label
abbrev pub IsTimeOf : Column → ℕ → ℕ → Type 0
IsTimeOf c label time = (r : ℕ) → leaves c r < time → departs c r < label
