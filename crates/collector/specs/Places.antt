-- The places of a study, one for each scenario and origin, and the matrix that their rows make.
use Rattle.std.specs.Prelude.{◌≡◌, ◌+◌, ◌*◌, ◌<◌, ℕ, true, List, [], ◌∷◌, Option, Some, None, length, replicate}
use Rattle.std.specs.Prelude.{is_some, slice_index_or}
use Rattle.collector.specs.Row.{RowData}

-- the study, how many scenarios and origins there are, how many cells a share of a row has, how many shares and limits,
-- and the row at each place, scenarios in the outer order
pub record PlacesData : Type 0 where
  pub study : ℕ
  pub scenarios : ℕ
  pub origins : ℕ
  pub width : ℕ
  pub shares : ℕ
  pub limits : ℕ
  pub rows : List (Option RowData)

-- no place has a row yet
abbrev pub empty_places : ℕ → ℕ → ℕ → ℕ → ℕ → ℕ → PlacesData
empty_places study scenarios origins width shares limits = record {
  study = study;
  scenarios = scenarios;
  origins = origins;
  width = width;
  shares = shares;
  limits = limits;
  rows = replicate (scenarios * origins) None;
}

-- the place of a scenario and an origin
abbrev pub place_of : PlacesData → ℕ → ℕ → ℕ
place_of places scenario origin = scenario * places.origins + origin

-- the row at a place, if it has one
abbrev pub row_at : PlacesData → ℕ → Option RowData
row_at places k = slice_index_or places.rows k None

-- every place has a row
abbrev pub AreFull : List (Option RowData) → Type 0
AreFull rows = (k : ℕ) → k < length rows → is_some (slice_index_or rows k None) ≡ true

-- the first place without a row
pub record IsFirstGap (rows : List (Option RowData)) (k : ℕ) : Type 0 where
  pub there : k < length rows
  pub none : slice_index_or rows k None ≡ None
  pub before : (j : ℕ) → j < k → is_some (slice_index_or rows j None) ≡ true

-- a matrix: a row for each scenario and origin, scenarios in the outer order
pub record MatrixData : Type 0 where
  pub scenarios : ℕ
  pub origins : ℕ
  pub width : ℕ
  pub shares : ℕ
  pub limits : ℕ
  pub rows : List RowData

-- the rows that are there
abbrev pub present : List (Option RowData) → List RowData
present [] = []
present (None ∷ rows) = present rows
present (Some row ∷ rows) = row ∷ present rows
