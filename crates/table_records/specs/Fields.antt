-- The grammars of fields: which texts are numbers, times and dates, and what they say.
-- "A number is one or more digits, its value at most 4,294,967,295. A time is H:MM:SS, HH:MM:SS or HHH:MM:SS,
-- its hours at most 167, its minutes and seconds 00 to 59. A date is YYYYMMDD and names a day of the Gregorian
-- calendar."
-- (GTFS reference, field types: Time counts on past 24:00:00 for trips that run into the next day; Date.)
-- Bytes are ASCII: 32 is a space, 48 to 57 are the digits, 58 is a colon.
use Rattle.std.specs.Prelude.{◌+◌, ◌*◌, ◌-◌, ◌/◌, ◌%◌, ◌==◌, ◌&&◌, nat_le, not, ℕ, ℤ, pos, Bool, true, false, List, []}
use Rattle.std.specs.Prelude.{◌∷◌, length, take, slice_index, Option, Some, None, option_map, option_and_then}
use Rattle.std.specs.Prelude.{if◌then◌else◌}
use Rattle.std.specs.List.{list_all}
use Rattle.jiff.specs.Words.{days_in_month}
use Rattle.jiff_core.specs.Calendar.{days_from_civil}

-- the one byte that is trimmed; a tab is no space
abbrev pub is_space : ℕ → Bool
is_space b = b == 32

-- a field without text
abbrev pub is_empty : List ℕ → Bool
is_empty [] = true
is_empty (b ∷ bs) = false

-- a text without the spaces at its start
abbrev pub trim_start : List ℕ → List ℕ
trim_start [] = []
trim_start (b ∷ bs) = if is_space b then trim_start bs else b ∷ bs

-- a text without the spaces at its end
abbrev pub trim_end : List ℕ → List ℕ
trim_end [] = []
trim_end (b ∷ bs) = if is_space b && is_empty (trim_end bs) then [] else b ∷ trim_end bs

-- a text without the spaces around it
abbrev pub trimmed : List ℕ → List ℕ
trimmed text = trim_end (trim_start text)

-- 0 to 9
abbrev pub is_digit : ℕ → Bool
is_digit b = nat_le 48 b && nat_le b 57

-- the value of decimal digits that follow a number n
abbrev pub value_after : ℕ → List ℕ → ℕ
value_after n [] = n
value_after n (b ∷ bs) = value_after (n * 10 + (b - 48)) bs

-- a number: one or more digits, leading zeros allowed, whose value is at most 4,294,967,295
abbrev pub number_of : List ℕ → Option ℕ
number_of text =
    if not (is_empty text) && list_all is_digit text && nat_le (value_after 0 text) 4294967295 then Some
    (value_after 0 text) else None

-- a number that is there, and is this one
abbrev pub is_number : ℕ → Option ℕ → Bool
is_number n None = false
is_number n (Some m) = m == n

-- two digits that write 00 to 59
abbrev pub sixty : ℕ → ℕ → Option ℕ
sixty a b = if nat_le 48 a && nat_le a 53 && is_digit b then Some (10 * (a - 48) + (b - 48)) else None

-- the two digits of the minutes or seconds, from a position in the text on
abbrev pub sixty_at : ℕ → List ℕ → Option ℕ
sixty_at i text = sixty (slice_index text i) (slice_index text (i + 1))

-- hours from 0 to 167: a service day and the six after it
abbrev pub hours_of : List ℕ → Option ℕ
hours_of text = option_and_then (λ h. if nat_le h 167 then Some h else None) (number_of text)

-- a colon stands at a position in the text
abbrev pub is_colon : ℕ → List ℕ → Bool
is_colon i text = slice_index text i == 58

-- the seconds of a clock that shows hours, minutes and seconds, if it shows all three
abbrev pub clock : Option ℕ → Option ℕ → Option ℕ → Option ℕ
clock hours minutes seconds =
    option_and_then (λ h. option_and_then (λ m. option_map (λ s. 3600 * h + 60 * m + s) seconds) minutes) hours

-- n digits of hours, a colon, the minutes, a colon, the seconds
abbrev pub time_after : ℕ → List ℕ → Option ℕ
time_after n text =
    if is_colon n text && is_colon (n + 3) text then clock (hours_of (take n text)) (sixty_at (n + 1) text)
    (sixty_at (n + 4) text) else None

-- the seconds since the service day's midnight that a time of one to three digits of hours shows
abbrev pub time_of : List ℕ → Option ℕ
time_of text = if nat_le 7 (length text) && nat_le (length text) 9 then time_after (length text - 6) text else None

-- a day of the Gregorian calendar
abbrev pub is_day : ℕ → ℕ → ℕ → Bool
is_day y m d = nat_le 1 m && nat_le m 12 && nat_le 1 d && nat_le d (days_in_month (pos y) m)

-- the number of a day, counted from 1970-01-01
abbrev pub day_number : ℕ → ℕ → ℕ → Option ℤ
day_number y m d = if is_day y m d then Some (days_from_civil (pos y) m d) else None

-- the day that a date of eight digits names: four of the year, two of the month, two of the day
abbrev pub day_of : List ℕ → Option ℤ
day_of text =
    if length text == 8 then option_and_then (λ v. day_number (v / 10000) (v / 100 % 100) (v % 100)) (number_of text)
    else None
