-- A row of the matrix, as plain data.
use Rattle.std.specs.Prelude.{ℕ, List, Option}

-- what one share of the minutes gives: a travel time or none for each stop, and the opportunities within reach, one sum
-- per limit
pub record CellsData : Type 0 where
  pub cells : List (Option ℕ)
  pub access : List ℕ

-- the study, the scenario and the origin that a row is for, and what each share gives, in the shares' order
pub record RowData : Type 0 where
  pub study : ℕ
  pub scenario : ℕ
  pub origin : ℕ
  pub shares : List CellsData
