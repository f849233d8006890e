-- What follows for cells.
use Rattle.std.specs.Prelude.{◌≡◌, ℕ, List, Option}
use Rattle.rounds.specs.Table.{DurationTable}
use Rattle.shares.specs.Percentiles.{IsCell, AreCells}

-- a law: a stop has one cell
abbrev pub CellIsUnique : Type 0
CellIsUnique = (t : DurationTable) (share p : ℕ) (some other : Option ℕ) → IsCell t share p some →
    IsCell t share p other →
    some ≡ other

-- a law: so all stops have one list of cells
abbrev pub CellsAreUnique : Type 0
CellsAreUnique = (t : DurationTable) (share : ℕ) (some others : List (Option ℕ)) → AreCells t share some →
    AreCells t share others → some ≡ others

-- a law: and there is such a list
abbrev pub CellsAreThere : Type 0
CellsAreThere = (t : DurationTable) (share : ℕ) → (cells : List (Option ℕ)) × AreCells t share cells
