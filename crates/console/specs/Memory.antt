-- The tables in which the system reports memory: lines of a name, a number of kilobytes, and `kB`.
-- "MemAvailable:   16102636 kB" (proc(5), `/proc/meminfo` and `/proc/PID/status`.)
-- Bytes are ASCII: 10 is LF.
use Rattle.std.specs.Prelude.{◌==◌, ◌*◌, ◌-◌, ℕ, List, [], ◌∷◌, Option, Some, None, codes, drop, length, nat_eq, take}
use Rattle.std.specs.Prelude.{if◌then◌else◌, option_and_then, option_map}
use Rattle.std.specs.Char.{is_ascii_whitespace}
use Rattle.std.specs.List.{prefix_len, slice_split, suffix_len}
use Rattle.table_records.specs.Fields.{number_of}
use lib.Pointwise.{pointwise}

abbrev pub lines_of : List ℕ → List (List ℕ)
lines_of text = slice_split (λ b. b == 10) text

-- a text without the white space at its start, at its end, and at both
abbrev pub from_start : List ℕ → List ℕ
from_start text = drop (prefix_len is_ascii_whitespace text) text

abbrev pub to_end : List ℕ → List ℕ
to_end text = take (length text - suffix_len is_ascii_whitespace text) text

abbrev pub trimmed : List ℕ → List ℕ
trimmed text = to_end (from_start text)

-- the rest of a text that begins with another
abbrev pub after_prefix : List ℕ → List ℕ → Option (List ℕ)
after_prefix prefix text = if pointwise nat_eq (take (length prefix) text) prefix then Some
    (drop (length prefix) text) else None

-- the rest of a text that ends with another
abbrev pub before_suffix : List ℕ → List ℕ → Option (List ℕ)
before_suffix suffix text = if pointwise nat_eq (drop (length text - length suffix) text) suffix then Some
    (take (length text - length suffix) text) else None

-- the bytes of a number of kilobytes
abbrev pub bytes_of : Option ℕ → Option ℕ
bytes_of kilobytes = option_map (λ kilobytes. kilobytes * 1024) kilobytes

abbrev pub bytes_before : Option (List ℕ) → Option ℕ
bytes_before digits = option_and_then (λ digits. bytes_of (number_of (trimmed digits))) digits

-- the bytes that a text such as `  16102636 kB` states
abbrev pub kilobytes_of : List ℕ → Option ℕ
kilobytes_of text = bytes_before (before_suffix (codes "kB") (trimmed text))

-- the bytes that a line states under a name
abbrev pub figure_of : List ℕ → List ℕ → Option ℕ
figure_of name line = option_and_then kilobytes_of (after_prefix name line)

-- the first figure, if there is one, else the other
abbrev pub first_of : Option ℕ → Option ℕ → Option ℕ
first_of (Some figure) other = Some figure
first_of None other = other

-- the bytes that the first line states that states some under a name
abbrev pub first_figure : List ℕ → List (List ℕ) → Option ℕ
first_figure name [] = None
first_figure name (line ∷ lines) = first_of (figure_of name line) (first_figure name lines)
