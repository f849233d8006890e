-- The lines of a report, and how a name or a value is shown in one.
use Rattle.std.specs.Prelude.{◌==◌, ◌||◌, ◌++◌, ◌∷◌, ℕ, List, [], codes, decimal, length, map, take, nat_lt}
use Rattle.std.specs.Prelude.{if◌then◌else◌}
use Rattle.std.specs.Char.{is_ascii_graphic}
use Rattle.console.specs.declared.lines.TheConstants.{MOST_SHOWN}

-- a line begins with the program's name and ends with a line end
abbrev pub line : List ℕ → List ℕ
line text = codes "ttm: " ++ text ++ codes "\n"

abbrev pub count_line : List ℕ → ℕ → List ℕ
count_line name count = line (name ++ codes ": " ++ decimal count)

abbrev pub count_of_line : List ℕ → List ℕ → ℕ → List ℕ
count_of_line name of count = line (name ++ codes " " ++ of ++ codes ": " ++ decimal count)

abbrev pub warning_line : List ℕ → List ℕ
warning_line warning = line (codes "warning: " ++ warning)

-- a byte that is a printed sign of ASCII, or a space, as it is, and any other as a question mark
abbrev pub shown_byte : ℕ → ℕ
shown_byte byte = if is_ascii_graphic byte || byte == 32 then byte else 63

-- the first sixty bytes so, and two dots where there are more
abbrev pub shown_of : List ℕ → List ℕ
shown_of bytes = map shown_byte (take MOST_SHOWN bytes)
    ++ (if nat_lt MOST_SHOWN (length bytes) then 46 ∷ 46 ∷ [] else [])
