-- The records of a scenario's file, one by one: an action, the identifier of a route or trip, and seconds for a shift.
-- (The product's own format, a table like those of a feed: columns `action`, `id` and `seconds`. Actions and
-- identifiers are compared byte by byte.)
use Rattle.std.specs.Prelude.{◌==◌, ◌+◌, ◌++◌, ℕ, ℤ, List, [], ◌∷◌, Option, Some, None, codes, is_none, map, nat_le}
use Rattle.std.specs.Prelude.{nat_lt, neg_ℤ, option_and_then, option_map, pos, position, if◌then◌else◌}
use Rattle.std.specs.Str.{bytes_eq}
use Rattle.table_records.specs.Columns.{column, field}
use Rattle.table_records.specs.Fields.{number_of, trimmed}
use Rattle.gtfs_tables.specs.Feed.{FeedData}
use Rattle.scenarios.specs.Faults.{when}
use Rattle.scenarios.specs.declared.edit_rows.Action.{Action}
use Rattle.scenarios.specs.declared.edit_rows.Action.TheVariants as action
use Rattle.scenarios.specs.declared.edit_rows.EditColumns.{EditColumns}
use Rattle.scenarios.specs.declared.edits.Edit.{Edit}
use Rattle.scenarios.specs.declared.edits.Edit.TheVariants as edit
use Rattle.scenarios.specs.declared.edits.TheConstants.{MOST_EDITS, MOST_SHIFT}
use Rattle.scenarios.specs.declared.faults.ScenarioWhat.{ScenarioWhat}
use Rattle.scenarios.specs.declared.faults.ScenarioWhat.TheVariants as what

-- what counts of a record
pub record EditRow : Type 0 where
  pub action : List ℕ
  pub id : List ℕ
  pub seconds : List ℕ

abbrev pub columns_of : List (List ℕ) → EditColumns
columns_of header = record {
  action = column header (codes "action");
  id = column header (codes "id");
  seconds = column header (codes "seconds");
}

-- a record's fields, without the spaces around its seconds
abbrev pub row_at : EditColumns → List (List ℕ) → EditRow
row_at c fields = record {
  action = field fields c.action;
  id = field fields c.id;
  seconds = trimmed (field fields c.seconds);
}

abbrev pub row_of : List (List ℕ) → List (List ℕ) → EditRow
row_of header = row_at (columns_of header)

-- the action that a text names
abbrev pub action_of : List ℕ → Option Action
action_of text =
    if bytes_eq text (codes "remove_route") then Some action.RemoveRoute
    else if bytes_eq text (codes "remove_trip") then Some action.RemoveTrip
    else if bytes_eq text (codes "shift_trip") then Some action.ShiftTrip
    else None

-- the number of the route, or of the trip, with an identifier
abbrev pub route_no : FeedData → List ℕ → Option ℕ
route_no feed id = position (bytes_eq id) feed.routes

abbrev pub trip_no : FeedData → List ℕ → Option ℕ
trip_no feed id = position (bytes_eq id) (map (λ t. t.id) feed.trips)

-- the seconds of a shift without its sign: a number, less than a week
abbrev pub seconds_of_digits : List ℕ → Option ℕ
seconds_of_digits text = option_and_then (λ n. if nat_le n MOST_SHIFT then Some n else None) (number_of text)

-- the seconds of a shift: digits, after a minus (45), a plus (43) or no sign
abbrev pub seconds_of : List ℕ → Option ℤ
seconds_of [] = None
seconds_of (b ∷ bs) =
    if b == 45 then option_map (λ n. neg_ℤ (pos n)) (seconds_of_digits bs)
    else if b == 43 then option_map pos (seconds_of_digits bs)
    else option_map pos (seconds_of_digits (b ∷ bs))

-- the faults of the identifier of a route, of a trip, and of a shift, in the order of their checks
abbrev pub route_faults : FeedData → List ℕ → List ScenarioWhat
route_faults feed id = when (is_none (route_no feed id)) what.UnknownRoute

abbrev pub trip_faults : FeedData → List ℕ → List ScenarioWhat
trip_faults feed id = when (is_none (trip_no feed id)) what.UnknownTrip

abbrev pub shift_faults : FeedData → List ℕ → List ℕ → List ScenarioWhat
shift_faults feed id seconds = trip_faults feed id ++ when (is_none (seconds_of seconds)) what.BadNumber

-- the faults of a record with an action
abbrev pub action_faults : FeedData → EditRow → Option Action → List ScenarioWhat
action_faults feed r None = what.UnknownAction ∷ []
action_faults feed r (Some action.RemoveRoute) = route_faults feed r.id
action_faults feed r (Some action.RemoveTrip) = trip_faults feed r.id
action_faults feed r (Some action.ShiftTrip) = shift_faults feed r.id r.seconds

-- the faults of the record with a number, which counts the header as 1
abbrev pub row_faults : FeedData → ℕ → EditRow → List ScenarioWhat
row_faults feed at r = when (nat_lt (MOST_EDITS + 1) at) what.TooMany ++ action_faults feed r (action_of r.action)

-- what a record does by its fields, where they have no fault
abbrev pub route_removal_of : FeedData → List ℕ → Option Edit
route_removal_of feed id = option_map edit.RemoveRoute (route_no feed id)

abbrev pub trip_removal_of : FeedData → List ℕ → Option Edit
trip_removal_of feed id = option_map edit.RemoveTrip (trip_no feed id)

abbrev pub trip_shift_of : FeedData → List ℕ → List ℕ → Option Edit
trip_shift_of feed id seconds = option_and_then (λ trip. option_map (edit.Shift trip) (seconds_of seconds))
    (trip_no feed id)

abbrev pub edit_by : FeedData → EditRow → Option Action → Option Edit
edit_by feed r None = None
edit_by feed r (Some action.RemoveRoute) = route_removal_of feed r.id
edit_by feed r (Some action.RemoveTrip) = trip_removal_of feed r.id
edit_by feed r (Some action.ShiftTrip) = trip_shift_of feed r.id r.seconds

abbrev pub edit_of : FeedData → EditRow → Option Edit
edit_of feed r = edit_by feed r (action_of r.action)
