-- The services of a feed, numbered as they are first named.
use Rattle.std.specs.Prelude.{ℕ, List, [], ◌∷◌, ◌++◌, if◌then◌else◌}
use Rattle.std.specs.List.{list_any}
use Rattle.std.specs.Str.{bytes_eq}

-- identifiers, and then those that are named after them for the first time
abbrev pub named : List (List ℕ) → List (List ℕ) → List (List ℕ)
named known [] = known
named known (id ∷ ids) = named (if list_any (bytes_eq id) known then known else known ++ id ∷ []) ids
