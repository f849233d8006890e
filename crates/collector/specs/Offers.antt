-- What an offer of a row does, and what finishing gives.
use Rattle.std.specs.Prelude.{◌≡◌, ◌==◌, ◌<◌, ◌&&◌, ℕ, Bool, true, not, Some, None, nat_lt, length, map, is_some}
use Rattle.std.specs.Prelude.{List, [], ◌∷◌, slice_set, if◌then◌else◌}
use Rattle.std.specs.List.{list_all}
use Rattle.collector.specs.Row.{CellsData, RowData}
use Rattle.collector.specs.Places.{PlacesData, MatrixData, place_of, row_at}
use Rattle.collector.specs.declared.places.Offer.{Offer}
use Rattle.collector.specs.declared.places.Offer.TheVariants.{Kept, Double, Stranger}
use Rattle.collector.specs.declared.places.Unfinished.{Unfinished}

-- what a share gives has so many cells, and so many access sums
abbrev pub is_whole : ℕ → ℕ → CellsData → Bool
is_whole width limits cells = length cells.cells == width && length cells.access == limits

-- so many shares are there, and each of them is whole: a cell for each stop, and an access sum for each limit
abbrev pub has_all_cells : PlacesData → RowData → Bool
has_all_cells places row = length row.shares == places.shares && list_all (is_whole places.width places.limits)
    row.shares

-- the row is no stranger: it is of this study, for a scenario and an origin in range, with all its cells and access
-- sums
abbrev pub belongs : PlacesData → RowData → Bool
belongs places row =
    row.study == places.study && (nat_lt row.scenario places.scenarios &&
    (nat_lt row.origin places.origins && has_all_cells places row))

-- the row's place is empty
abbrev pub is_open : PlacesData → RowData → Bool
is_open places row = not (is_some (row_at places (place_of places row.scenario row.origin)))

-- a stranger comes back, and so does a row whose place is full; the first row of a place is kept
abbrev pub offer_of : PlacesData → RowData → Offer
offer_of places row = if belongs places row then (if is_open places row then Kept else Double row) else Stranger row

-- a row that is kept stands at its place, and no other place changes
abbrev pub after_offer : PlacesData → RowData → PlacesData
after_offer places row =
    if belongs places row && is_open places row
    then record places { rows = slice_set places.rows (place_of places row.scenario row.origin) (Some row) }
    else places

-- the places after rows were offered, one after another
abbrev pub offered : PlacesData → List RowData → PlacesData
offered places [] = places
offered places (row ∷ rows) = offered (after_offer places row) rows

-- no offer changes how many scenarios, origins, cells, shares and limits there are
pub record IsSameSize (old new : PlacesData) : Type 0 where
  pub scenarios : new.scenarios ≡ old.scenarios
  pub origins : new.origins ≡ old.origins
  pub width : new.width ≡ old.width
  pub shares : new.shares ≡ old.shares
  pub limits : new.limits ≡ old.limits

-- every place is full, and the matrix has their rows
pub record IsFinished (places : PlacesData) (matrix : MatrixData) : Type 0 where
  pub scenarios : matrix.scenarios ≡ places.scenarios
  pub origins : matrix.origins ≡ places.origins
  pub width : matrix.width ≡ places.width
  pub shares : matrix.shares ≡ places.shares
  pub limits : matrix.limits ≡ places.limits
  pub rows : places.rows ≡ map Some matrix.rows

-- the first place without a row, by its scenario and origin
pub record IsFirstEmpty (places : PlacesData) (scenario origin : ℕ) : Type 0 where
  pub scenario_in : scenario < places.scenarios
  pub origin_in : origin < places.origins
  pub none : row_at places (place_of places scenario origin) ≡ None
  pub before : (k : ℕ) → k < place_of places scenario origin → is_some (row_at places k) ≡ true

-- the collector comes back with its first empty place
pub record IsHandedBack (places : PlacesData) (unfinished : Unfinished) : Type 0 where
  pub back : unfinished.collector ≡ places
  pub first : IsFirstEmpty places unfinished.scenario unfinished.origin
