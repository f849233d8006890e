-- A day is a number: days since 1 January of the year -9999. Its weekday is that of its date.
use Rattle.std.specs.Prelude.{◌-ℤ◌, ℕ, pos}
use Rattle.jiff_core.specs.Calendar.{weekday_number}

-- the weekday of a day, 0 for Monday
abbrev pub weekday_at : ℕ → ℕ
weekday_at day = weekday_number (pos day -ℤ pos 4371587)
