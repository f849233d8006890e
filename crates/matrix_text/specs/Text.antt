-- The text of a matrix: a header record, and then a record per scenario, origin and share, each ended by LF.
-- (Comma-separated records as csv writes them: RFC 4180, with LF alone.)
use Rattle.std.specs.Prelude.{◌≡◌, ℕ, zero, suc, ◌+◌, ◌*◌, ◌<◌, List, [], ◌∷◌, ◌++◌, length, map, codes, decimal, All}
use Rattle.std.specs.Prelude.{Option, Some, None, slice_get}
use Rattle.std.specs.List.{flat_map, zip}
use Rattle.std.specs.Option.{option_map_or}
use Rattle.csv.specs.Writing.{row_text, default_writer}
use Rattle.timetable.specs.declared.trips.StopNo.{StopNo}
use Rattle.collector.specs.Row.{CellsData, RowData}
use Rattle.collector.specs.Places.{MatrixData}
use Rattle.matrix_text.specs.declared.labels.Labels.{Labels}

-- the names of the scenarios, the stop of each origin, the shares of the minutes, the limits of reach in seconds, the
-- destinations, and the identifiers of all stops
pub record LabelData : Type 0 where
  pub scenarios : List (List ℕ)
  pub origins : List StopNo
  pub shares : List ℕ
  pub limits : List ℕ
  pub destinations : List StopNo
  pub stops : List (List ℕ)

abbrev pub labels_of : Labels → LabelData
labels_of l = record {
  scenarios = map (λ v. v.items) l.scenarios.now;
  origins = l.origins.now;
  shares = l.shares.now;
  limits = l.limits.now;
  destinations = l.destinations.now;
  stops = l.feed.now.stops;
}

-- one name per scenario, one of the stops per origin and per destination, and as many shares, limits and destinations
-- as the matrix has shares, limits and columns
pub record LabelsFit (l : LabelData) (m : MatrixData) : Type 0 where
  pub scenarios : length l.scenarios ≡ m.scenarios
  pub origins : length l.origins ≡ m.origins
  pub origins_are : All (λ o. o.0 < length l.stops) l.origins
  pub shares : length l.shares ≡ m.shares
  pub limits : length l.limits ≡ m.limits
  pub destinations_are : All (λ o. o.0 < length l.stops) l.destinations
  pub columns : length l.destinations ≡ m.width

-- the text of a record, quoted where needed, ended by LF
unfoldable pub line_text : List (List ℕ) → List ℕ
line_text fields = row_text default_writer fields

-- the field above the access sums of a limit: `access_` and the limit's digits
abbrev pub limit_field : ℕ → List ℕ
limit_field limit = codes "access_" ++ decimal limit

-- the element at a position, or an empty text
abbrev pub text_at : List (List ℕ) → ℕ → List ℕ
text_at texts k = option_map_or (λ (text : List ℕ). text) (slice_get texts k) []

-- the fields of the header: behind the limits' the identifiers of the destinations, in their order
abbrev pub header_fields : List ℕ → List StopNo → List (List ℕ) → List (List ℕ)
header_fields limits destinations stops =
    codes "scenario" ∷ codes "origin" ∷ codes
    "share" ∷ (map limit_field limits ++ map (λ (stop : StopNo). text_at stops stop.0) destinations)

-- a cell's field: its digits, or nothing where it is absent
abbrev pub cell_field : Option ℕ → List ℕ
cell_field None = []
cell_field (Some seconds) = decimal seconds

-- the fields of a share's line: the scenario's name, the origin's stop, the share, its access sums and its cells
abbrev pub share_fields : List ℕ → List ℕ → ℕ → CellsData → List (List ℕ)
share_fields name stop share given = name ∷ stop ∷ decimal
    share ∷ (map decimal given.access ++ map cell_field given.cells)

-- the line of a share, and of what it gives
abbrev pub share_line : List ℕ → List ℕ → ℕ × CellsData → List ℕ
share_line name stop (share, given) = line_text (share_fields name stop share given)

-- the lines of a row, one for each share, in order
abbrev pub row_lines : List ℕ → List ℕ → List ℕ → List CellsData → List ℕ
row_lines name stop shares given = flat_map (share_line name stop) (zip shares given)

-- the identifier of an origin's stop
abbrev pub origin_at : LabelData → ℕ → List ℕ
origin_at l origin = option_map_or (λ (stop : StopNo). text_at l.stops stop.0) (slice_get l.origins origin) []

-- the lines of a scenario and an origin
abbrev pub lines_at : LabelData → MatrixData → ℕ → ℕ → List ℕ
lines_at l m scenario origin =
    option_map_or (λ (row : RowData). row_lines (text_at l.scenarios scenario) (origin_at l origin) l.shares row.shares)
    (slice_get m.rows (scenario * m.origins + origin)) []

-- the texts of 0, 1, .. below n, one after another
abbrev pub texts_below : (ℕ → List ℕ) → ℕ → List ℕ
texts_below text zero = []
texts_below text (suc n) = texts_below text n ++ text n

-- the lines of a scenario, origins in order
abbrev pub scenario_text : LabelData → MatrixData → ℕ → List ℕ
scenario_text l m scenario = texts_below (lines_at l m scenario) m.origins

-- the lines of all scenarios, in order
abbrev pub rows_text : LabelData → MatrixData → List ℕ
rows_text l m = texts_below (scenario_text l m) m.scenarios

-- the header, and then all rows
abbrev pub matrix_text : LabelData → MatrixData → List ℕ
matrix_text l m = line_text (header_fields l.limits l.destinations l.stops) ++ rows_text l m
