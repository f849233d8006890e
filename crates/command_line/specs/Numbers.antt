-- The lists of numbers of the command line.
-- "A list is 1 to 8 numbers parted by single commas, without spaces, each greater than the one before it." (The
-- program's own rule.)
-- Bytes are ASCII: 44 is a comma.
use Rattle.std.specs.Prelude.{◌≡◌, ◌≤◌, ◌==◌, ◌&&◌, nat_le, nat_lt, ℕ, Bool, true, List, [], ◌∷◌, map, length, Option}
use Rattle.std.specs.Prelude.{Some, None, option_map, option_and_then, if◌then◌else◌}
use Rattle.std.specs.List.{slice_split}
use Rattle.std.specs.List.Sorted.{IsStrictlyIncreasing}
use Rattle.table_records.specs.Fields.{number_of}
use Rattle.command_line.specs.declared.numbers.TheConstants.{MOST_NUMBERS}

-- the texts before, between and after the commas of a text
abbrev pub parts_of : List ℕ → List (List ℕ)
parts_of text = slice_split (λ b. b == 44) text

-- a text lists these numbers: its parts write them, one each
pub record Lists (text numbers : List ℕ) : Type 0 where
  pub written : map number_of (parts_of text) ≡ map Some numbers
  pub some : 1 ≤ length numbers
  pub few : length numbers ≤ MOST_NUMBERS
  pub ascending : IsStrictlyIncreasing numbers

-- ---- the same as a value

-- the numbers that texts write, where each writes one
abbrev pub written_by : List (List ℕ) → Option (List ℕ)
written_by [] = Some []
written_by (text ∷ texts) = option_and_then (λ n. option_map (λ ns. n ∷ ns) (written_by texts)) (number_of text)

-- whether each number is greater than the one before it
abbrev pub ascend : List ℕ → Bool
ascend [] = true
ascend (n ∷ []) = true
ascend (n ∷ m ∷ ns) = nat_lt n m && ascend (m ∷ ns)

-- the numbers that a text lists, if it lists any
abbrev pub numbers_of : List ℕ → Option (List ℕ)
numbers_of text = option_and_then (λ ns. if nat_le (length ns) MOST_NUMBERS && ascend ns then Some ns else None)
    (written_by (parts_of text))
