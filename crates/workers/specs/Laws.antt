-- What follows for rows and matrices.
use Rattle.std.specs.Prelude.{◌≡◌, ◌*◌, ◌<◌, ℕ, List, length, map, take, drop, slice_get}
use Rattle.std.specs.List.{All, AllZip, flat_map, range_with_len}
use Rattle.timetable.specs.declared.trips.StopNo.{StopNo}
use Rattle.timetable.specs.Networks.{Net}
use Rattle.collector.specs.Row.{CellsData, RowData}
use Rattle.collector.specs.Places.{MatrixData}
use Rattle.workers.specs.Study.{Query, StudyData}
use Rattle.workers.specs.Rows.{at_stops, IsRow, IsRowOf}
use Rattle.workers.specs.Matrices.{IsMatrix}

-- a law: a network, an origin, opportunities and a query have one row
abbrev pub RowsAreUnique : Type 0
RowsAreUnique =
    (n : Net) (origin : ℕ) (opportunities : List ℕ) (q : Query) (some other : List CellsData) →
    IsRow n origin opportunities q some → IsRow n origin opportunities q other → some ≡ other

-- all stops of a network, in order
abbrev pub all_stops : Net → List StopNo
all_stops n = map (λ m. record { 0 = m }) (range_with_len 0 n.stops)

-- the same of a share with the cells of some stops alone, where there is a cell for each stop
abbrev pub with_columns : List StopNo → CellsData → CellsData
with_columns destinations given = record { cells = at_stops destinations given.cells; access = given.access }

-- a law: a row has, for each destination, the cell that the row of all stops has there, and the same access
abbrev pub RowsHaveTheirColumns : Type 0
RowsHaveTheirColumns =
    (n : Net) (origin : ℕ) (opportunities : List ℕ) (q : Query) (destinations : List StopNo)
    (whole some : List CellsData) →
    q.destinations ≡ all_stops n → IsRow n origin opportunities q whole →
    IsRow n origin opportunities (record q { destinations = destinations }) some →
    some ≡ map (with_columns destinations) whole

-- a row with the cells of some stops alone
abbrev pub row_at : List StopNo → RowData → RowData
row_at destinations row = record {
  study = row.study;
  scenario = row.scenario;
  origin = row.origin;
  shares = map (with_columns destinations) row.shares;
}

-- a matrix with the columns of some stops alone
abbrev pub matrix_at : List StopNo → MatrixData → MatrixData
matrix_at destinations m = record {
  scenarios = m.scenarios;
  origins = m.origins;
  width = length destinations;
  shares = m.shares;
  limits = m.limits;
  rows = map (row_at destinations) m.rows;
}

-- the study with these destinations
abbrev pub study_to : List StopNo → StudyData → StudyData
study_to destinations s = record s { query = record s.query { destinations = destinations } }

-- a law: so the matrix of some destinations is that of all stops, with the other columns left out
abbrev pub MatricesHaveTheirColumns : Type 0
MatricesHaveTheirColumns =
    (s : StudyData) (destinations : List StopNo) (whole some : MatrixData) →
    All (λ n. s.query.destinations ≡ all_stops n) s.networks →
    IsMatrix s whole → IsMatrix (study_to destinations s) some → some ≡ matrix_at destinations whole

-- two studies ask the same of their networks
pub record AskTheSame (s t : StudyData) : Type 0 where
  pub origins : s.origins ≡ t.origins
  pub opportunities : s.opportunities ≡ t.opportunities
  pub query : s.query ≡ t.query

-- a law: where they have the same network for a scenario, they have the same cells and access in its rows
abbrev pub RowsDependOnTheirNetwork : Type 0
RowsDependOnTheirNetwork =
    (s t : StudyData) (scenario of_other origin : ℕ) (row other : RowData) →
    AskTheSame s t → slice_get s.networks scenario ≡ slice_get t.networks of_other →
    IsRowOf s scenario origin row → IsRowOf t of_other origin other → row.shares ≡ other.shares

-- a law: a study has one matrix
abbrev pub MatricesAreUnique : Type 0
MatricesAreUnique = (s : StudyData) (some other : MatrixData) → IsMatrix s some → IsMatrix s other → some ≡ other

-- a part of a study asks the same of the same networks; the study's number and its origins are its own
pub record IsPartOf (whole part : StudyData) : Type 0 where
  pub networks : part.networks ≡ whole.networks
  pub opportunities : part.opportunities ≡ whole.opportunities
  pub query : part.query ≡ whole.query

-- the parts of a study have its origins, one part after the other
pub record AreParts (whole : StudyData) (parts : List StudyData) : Type 0 where
  pub parts_are : All (λ part. IsPartOf whole part) parts
  pub origins : whole.origins ≡ flat_map (λ part. part.origins) parts

-- the cells and access of a scenario's rows, origin after origin
abbrev pub given_in : ℕ → MatrixData → List (List CellsData)
given_in scenario m = map (λ row. row.shares) (take m.origins (drop (scenario * m.origins) m.rows))

-- a law: in each scenario, the rows of the whole are those of its parts, one part after the other
abbrev pub WholesHaveTheRowsOfTheirParts : Type 0
WholesHaveTheRowsOfTheirParts =
    (whole : StudyData) (parts : List StudyData) (m : MatrixData) (matrices : List MatrixData) (scenario : ℕ) →
    AreParts whole parts → IsMatrix whole m → AllZip IsMatrix parts matrices → scenario < length whole.networks →
    given_in scenario m ≡ flat_map (λ matrix. given_in scenario matrix) matrices
