-- Access: the sum of the opportunities at the stops that are within reach.
use Rattle.std.specs.Prelude.{◌≡◌, ℕ, ◌+◌, List, [], ◌∷◌, Option, Some, None, nat_le, if◌then◌else◌}
use Rattle.rounds.specs.Table.{DurationTable}
use Rattle.shares.specs.Percentiles.{AreCells}

-- what a stop counts for: its opportunities where its cell is at most the limit
abbrev pub counted : Option ℕ → ℕ → ℕ → ℕ
counted None n within = 0
counted (Some d) n within = if nat_le d within then n else 0

-- the sum over the stops
abbrev pub access_of : List (Option ℕ) → List ℕ → ℕ → ℕ
access_of [] ns within = 0
access_of (c ∷ cs) [] within = 0
access_of (c ∷ cs) (n ∷ ns) within = counted c n within + access_of cs ns within

-- the access of a share within a limit: the sum over all stops, by their cells for the share
abbrev pub IsAccess : DurationTable → List ℕ → ℕ → ℕ → ℕ → Type 0
IsAccess t ns share within sum = (cells : List (Option ℕ)) → AreCells t share cells → sum ≡ access_of cells ns within
