-- Identifiers, numbered as they are first named.
use Rattle.std.specs.Prelude.{ℕ, List, position, unwrap_or}
use Rattle.std.specs.Str.{bytes_eq}

-- the number of an identifier: how many were named before it
abbrev pub number_in : List (List ℕ) → List ℕ → ℕ
number_in ids id = unwrap_or (position (bytes_eq id) ids) 0
