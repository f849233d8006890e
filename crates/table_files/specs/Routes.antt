-- What `routes.txt` says: which routes there are.
-- GTFS Schedule reference, routes.txt.
use Rattle.std.specs.Prelude.{ℕ, List, [], ◌∷◌, ◌++◌, codes, map}
use Rattle.std.specs.List.{list_any}
use Rattle.std.specs.Str.{bytes_eq}
use Rattle.table_records.specs.Columns.{column, field}
use Rattle.table_records.specs.Fields.{is_empty}
use Rattle.table_records.specs.Faults.{when}
use Rattle.table_records.specs.Table.{records_of}
use Rattle.table_records.specs.declared.fault.FeedFault.{FeedFault}
use Rattle.table_records.specs.declared.fault.FileName.TheVariants as file
use Rattle.table_records.specs.declared.fault.What.{What}
use Rattle.table_records.specs.declared.fault.What.TheVariants as what
use Rattle.table_files.specs.declared.routes.RouteColumns.{RouteColumns}
use Rattle.table_records.specs.Reading.{table_faults, table_rows}

-- what counts of a record
pub record RouteRow : Type 0 where
  pub id : List ℕ

abbrev pub required : List (List ℕ)
required = codes "route_id" ∷ []

abbrev pub columns_of : List (List ℕ) → RouteColumns
columns_of header = record { id = column header (codes "route_id") }

abbrev pub row_at : RouteColumns → List (List ℕ) → RouteRow
row_at columns fields = record { id = field fields columns.id }

abbrev pub row_of : List (List ℕ) → List (List ℕ) → RouteRow
row_of header = row_at (columns_of header)

-- the faults of a record, in the order of their checks: a route without a name, a name used before
abbrev pub checks : List RouteRow → RouteRow → List What
checks before r =
    when (is_empty r.id) what.EmptyId
    ++ when (list_any (bytes_eq r.id) (map (λ b. b.id) before)) what.DuplicateId

-- all faults of the bytes of `routes.txt`
abbrev pub route_faults : List ℕ → List FeedFault
route_faults bytes = table_faults file.Routes required row_of checks (records_of bytes)

-- the identifiers of the routes, in file order: a route's number is its position here
abbrev pub routes_of : List RouteRow → List (List ℕ)
routes_of rows = map (λ r. r.id) rows

abbrev pub route_ids : List ℕ → List (List ℕ)
route_ids bytes = routes_of (table_rows row_of (records_of bytes))
