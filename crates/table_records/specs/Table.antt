-- A table: the records of a file.
-- "The records of the file's bytes after one UTF-8 byte-order mark; records may be of unequal length."
-- (GTFS reference, file requirements: a comma-separated text in UTF-8, quoted as in RFC 4180.)
use Rattle.std.specs.Prelude.{◌≡◌, ℕ, Bool, true, false, List, [], ◌∷◌}
use Rattle.csv.specs.Reading.{default_config, records, strip_bom}

-- the records of a file's bytes, each a list of its fields, the header among them
abbrev pub records_of : List ℕ → List (List (List ℕ))
records_of bytes = records default_config (strip_bom bytes)

-- a step through a table: from the records to come to the next one, if any, and those after it
abbrev pub Gives : List (List (List ℕ)) → Bool → List (List ℕ) → List (List (List ℕ)) → Type 0
Gives [] found fields rest = (found ≡ false) × (rest ≡ [])
Gives (r ∷ rs) found fields rest = (found ≡ true) × (fields ≡ r) × (rest ≡ rs)
