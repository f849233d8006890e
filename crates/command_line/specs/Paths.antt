-- The names and paths of files.
-- "A scenario's name is its path after the last slash, without a final .csv. A file of the feed lies in the feed's
-- folder." (The program's own rule.) Bytes are ASCII: 47 is a slash.
use Rattle.std.specs.Prelude.{◌++◌, ◌==◌, ◌-◌, ℕ, List, ◌∷◌, [], codes, length, take, drop, if◌then◌else◌}
use Rattle.std.specs.List.{list_any}
use Rattle.std.specs.Str.{bytes_eq}

-- the path of a file of the feed
abbrev pub path_in : List ℕ → List ℕ → List ℕ
path_in folder name = folder ++ 47 ∷ name

-- a path after its last slash
abbrev pub after_slash : List ℕ → List ℕ
after_slash [] = []
after_slash (b ∷ bs) = if list_any (λ x. x == 47) (b ∷ bs) then after_slash bs else b ∷ bs

-- a text without a final .csv
abbrev pub without_csv : List ℕ → List ℕ
without_csv text = if bytes_eq (drop (length text - 4) text) (codes ".csv") then take (length text - 4) text else text

-- the name of the scenario of a path
abbrev pub scenario_of : List ℕ → List ℕ
scenario_of path = without_csv (after_slash path)
