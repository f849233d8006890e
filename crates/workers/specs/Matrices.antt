-- The matrix of a study: one row per scenario and origin, scenarios in the outer order.
use Rattle.std.specs.Prelude.{◌≡◌, ℕ, ◌+◌, ◌*◌, ◌<◌, length, Some, slice_get, All}
use Rattle.collector.specs.Row.{CellsData, RowData}
use Rattle.collector.specs.Places.{MatrixData}
use Rattle.workers.specs.Study.{StudyData}
use Rattle.workers.specs.Rows.{IsRowOf}

-- each place has the row of its scenario and origin
pub record IsMatrix (s : StudyData) (m : MatrixData) : Type 0 where
  pub scenarios : m.scenarios ≡ length s.networks
  pub origins : m.origins ≡ length s.origins
  pub width : m.width ≡ length s.query.destinations
  pub shares : m.shares ≡ length s.query.shares
  pub limits : m.limits ≡ length s.query.limits
  pub count : length m.rows ≡ m.scenarios * m.origins
  pub rows : (scenario origin : ℕ) (row : RowData) → scenario < m.scenarios → origin < m.origins →
      slice_get m.rows (scenario * m.origins + origin) ≡ Some row → IsRowOf s scenario origin row

-- for each of so many shares a row has so many cells, and as many access sums as there are limits
pub record HasAllCells (shares width limits : ℕ) (row : RowData) : Type 0 where
  pub shares_are : length row.shares ≡ shares
  pub cells : All (λ (given : CellsData). length given.cells ≡ width) row.shares
  pub access : All (λ (given : CellsData). length given.access ≡ limits) row.shares

-- a matrix has a row per scenario and origin, and each row has, for each share, a cell per destination and a sum per
-- limit
pub record HasShape (s : StudyData) (m : MatrixData) : Type 0 where
  pub scenarios : m.scenarios ≡ length s.networks
  pub origins : m.origins ≡ length s.origins
  pub width : m.width ≡ length s.query.destinations
  pub shares : m.shares ≡ length s.query.shares
  pub limits : m.limits ≡ length s.query.limits
  pub count : length m.rows ≡ m.scenarios * m.origins
  pub rows : All (HasAllCells m.shares m.width m.limits) m.rows
