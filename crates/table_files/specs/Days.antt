-- Dates as numbers, and fields that choose one of two values.
use Rattle.std.specs.Prelude.{◌==◌, ℕ, Bool, true, false, List, Option, Some, None, option_map, pos, unsigned_abs, ◌+ℤ◌}
use Rattle.std.specs.Prelude.{if◌then◌else◌}
use Rattle.jiff.specs.Words.{epoch_day}
use Rattle.jiff_core.specs.declared.civil.date.Date.{Date}
use Rattle.table_records.specs.Fields.{day_of, number_of}

-- the number of a date: days since 1 January of the year -9999
abbrev pub day_number : Date → ℕ
day_number d = unsigned_abs (epoch_day d +ℤ pos 4371587)

-- the number of the date that a text names
abbrev pub date_of : List ℕ → Option ℕ
date_of text = option_map (λ z. unsigned_abs (z +ℤ pos 4371587)) (day_of text)

-- one of two numbers: the first says no, the second yes
abbrev pub choice : ℕ → ℕ → Option ℕ → Option Bool
choice off on None = None
choice off on (Some n) = if n == off then Some false else if n == on then Some true else None

-- whether a service runs on a weekday: 0 or 1
abbrev pub flag_of : List ℕ → Option Bool
flag_of text = choice 0 1 (number_of text)

-- what an exception does: 1 adds the date, 2 removes it
abbrev pub adds_of : List ℕ → Option Bool
adds_of text = choice 2 1 (number_of text)
