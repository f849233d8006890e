-- The departure window of a study, as two texts of the command line name it.
-- "A minute of the day is two digits, a colon and two digits, 00:00 to 23:59, without spaces. A window has both of its
-- ends, and the last isn't before the first." (The program's own rule, after GTFS's times.)
use Rattle.std.specs.Prelude.{◌+◌, ◌*◌, ◌-◌, ◌==◌, ◌&&◌, nat_le, nat_lt, ℕ, List, length, slice_index, Option, Some}
use Rattle.std.specs.Prelude.{None, option_map, option_and_then, if◌then◌else◌}
use Rattle.table_records.specs.Fields.{is_digit, is_colon}

-- the number below a limit that two digits write
abbrev pub below_of : ℕ → ℕ → ℕ → Option ℕ
below_of limit tens ones =
    if is_digit tens && is_digit ones && nat_lt (10 * (tens - 48) + (ones - 48)) limit then Some
    (10 * (tens - 48) + (ones - 48)) else None

-- the minute of the day that hours and minutes make, if both are there
abbrev pub clock : Option ℕ → Option ℕ → Option ℕ
clock hours minutes = option_and_then (λ h. option_map (λ m. 60 * h + m) minutes) hours

-- two digits of hours, a colon, two digits of minutes
abbrev pub minute_of : List ℕ → Option ℕ
minute_of text =
    if (length text == 5) && is_colon 2 text then clock (below_of 24 (slice_index text 0) (slice_index text 1))
    (below_of 60 (slice_index text 3) (slice_index text 4))
    else None

-- the first minute and the number of minutes, both ends included
abbrev pub minutes_between : ℕ → ℕ → Option (ℕ × ℕ)
minutes_between first last = if nat_le first last then Some (first, last - first + 1) else None

-- ... of two texts
abbrev pub window_between : List ℕ → List ℕ → Option (ℕ × ℕ)
window_between from to =
    option_and_then (λ first. option_and_then (minutes_between first) (minute_of to)) (minute_of from)
